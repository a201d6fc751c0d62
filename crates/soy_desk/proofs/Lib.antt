pub mod Entries
mod Slots
pub mod Lefts
mod Followed
mod Law
mod Meanings
