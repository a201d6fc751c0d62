-- Runs of typed trees.
pub mod BlockClasses
pub mod CheckedNodes
pub mod CheckedScopes
pub mod CheckedTrees
pub mod PrintableUses
pub mod PrintedClasses
pub mod TypedEnvs
pub mod TypedNodes
pub mod TypedPicks
pub mod TypedRuns
