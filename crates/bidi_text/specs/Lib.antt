pub mod Clean
pub mod Estimate
pub mod Wrap
