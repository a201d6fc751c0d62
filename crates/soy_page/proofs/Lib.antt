pub mod Filled
pub mod Pages
pub mod Pulls
