pub mod Drops
pub mod ViewTexts
pub mod TagScans
pub mod SameNames
