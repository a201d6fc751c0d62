pub mod Data
pub mod Draws
pub mod Source
pub mod Workload
