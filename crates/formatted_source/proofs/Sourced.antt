-- What a tree of a text lacks.
pub mod SegmentTexts
pub mod SourcedCommands
pub mod SourcedNodes
pub mod SpokenCommands
pub mod TokenTexts
