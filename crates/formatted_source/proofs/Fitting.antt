-- The limit on depth.
pub mod FittingCommands
pub mod FittingNodes
pub mod FittingParts
pub mod FittingTrees
pub mod FittingTypes
pub mod ExprHeights
pub mod ExprsLower
pub mod WrittenHeight
