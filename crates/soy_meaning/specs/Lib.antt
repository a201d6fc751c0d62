pub mod Rows
pub mod RunRows
pub mod Paths
pub mod Walks
pub mod Runs
