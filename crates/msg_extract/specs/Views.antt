-- What values of the code stand for, kind by kind.
pub mod ViewCutter
pub mod ViewItems
pub mod ViewKeys
pub mod ViewMessages
pub mod ViewNames
pub mod ViewPieces
pub mod ViewPlaceholders
