-- Two runs with the same choices.
pub mod AlikeBindings
pub mod AlikeNodes
pub mod AlikeOutcomes
pub mod AlikeParts
pub mod AlikeRuns
pub mod ChosenArms
pub mod NestFrames
pub mod NestNodes
pub mod NestOutcomes
pub mod NestParts
pub mod NestRuns
pub mod PlacedInBoth
