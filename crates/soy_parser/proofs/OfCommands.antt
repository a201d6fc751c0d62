-- Commands of a file.
pub mod Admits
pub mod AdmittedSteps
pub mod AscendingCommands
pub mod CommandLevels
pub mod CommandRunning
pub mod CommandsComplete
pub mod CommandsEnd
pub mod CommandsSound
pub mod FormedCommands
pub mod WrittenTokens
