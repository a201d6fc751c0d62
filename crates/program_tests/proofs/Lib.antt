-- What proofs of tests cite.
mod FormedTrees
