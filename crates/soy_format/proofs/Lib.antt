pub mod AsciiTexts
pub mod Pushes
pub mod TextLines
pub mod AlikeTrees
pub mod Templates
