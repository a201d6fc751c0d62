pub mod Members
pub mod Paths
pub mod Walks
pub mod Typing
pub mod Pairs
pub mod Runs
