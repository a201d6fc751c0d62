pub mod AsciiTable
pub mod Runs
pub mod BlockSteps
pub mod BracketRuns
pub mod BracketSteps
pub mod PairParts
