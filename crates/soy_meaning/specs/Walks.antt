-- The walk over all paths of a plan together, and what is demanded of each of them.
pub mod Machine
pub mod States
pub mod Points
pub mod FourPoints
pub mod Walk
pub mod Holes
pub mod PageMachine
pub mod AcceptedTrees
