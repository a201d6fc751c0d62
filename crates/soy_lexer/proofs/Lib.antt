pub mod OneSegments
pub mod SourceTexts
pub mod SomeSegments
pub mod Running
pub mod Represented
pub mod TextSegments
pub mod ChunksAdded
pub mod Reading
pub mod PlainAdded
pub mod ChunksRead
pub mod Ordered
pub mod CommandSegments
pub mod StringReading
mod LongestTokens
