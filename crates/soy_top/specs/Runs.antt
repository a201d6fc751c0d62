-- The run: its course and its ends.
pub mod Change
pub mod Concludes
pub mod Course
pub mod Due
pub mod Ending
pub mod Output
pub mod ViewOutput
