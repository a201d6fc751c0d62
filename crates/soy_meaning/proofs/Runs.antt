-- Runs along paths.
pub mod Joined
pub mod Goings
pub mod OpenedCalls
pub mod NodeRuns
pub mod PartRuns
pub mod PlacedRuns
pub mod ReadRuns
pub mod RunBindings
pub mod RunPaths
pub mod RunPieces
