-- Plays and their scripts.
pub mod AnsweredPlays
pub mod PlayChecks
pub mod PlayTexts
pub mod PlayedDesk
pub mod PlayedLines
pub mod ScriptTexts
pub mod StepsAlike
