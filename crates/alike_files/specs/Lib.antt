pub mod WithoutPositions
pub mod RunWithoutPositions
pub mod AllAlike
pub mod IdsIn
pub mod MeaningUnder
pub mod WorkedTrees
