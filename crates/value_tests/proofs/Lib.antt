-- What proofs of tests cite.
mod IntRow
