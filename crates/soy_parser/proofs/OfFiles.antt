-- The machine of files.
pub mod FileAnswers
pub mod FileMachine
pub mod FileReads
pub mod FileRunning
pub mod FilesComplete
pub mod FilesExact
pub mod FilesSound
pub mod Reaching
pub mod ReadingSteps
pub mod ReadsFile
