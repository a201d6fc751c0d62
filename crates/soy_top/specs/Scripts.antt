-- The script of a play.
pub mod AcceptsScript
pub mod DeskLines
pub mod Played
pub mod Script
pub mod ScriptSteps
pub mod ViewPlay
pub mod ViewScript
