pub mod AsciiTexts
pub mod Forgetting
pub mod Growth
mod Keyed
mod Nearest
pub mod PartRows
mod Refusals
mod SameLists
pub mod Shallows
mod TextOrder
mod TextsLeft
mod TypeNumbers
mod TypeSearch
mod TypeTexts
mod Undoing
mod ValueOrBlock
