-- Plans of frames, the paths through a plan, and paths with their holes filled.
pub mod Plan
pub mod PathParts
pub mod PlanOfParts
pub mod PlanOfNodes
pub mod Ways
pub mod Blocks
pub mod Filled
