pub mod Answers
pub mod FullNames
pub mod Named
pub mod Rules
pub mod ViewAround
