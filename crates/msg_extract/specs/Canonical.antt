-- The canonical text of a message, the pieces that it is written of, and the parts of its source.
pub mod Ascii
pub mod CanonicalText
pub mod Pieces
pub mod QuotedRuns
pub mod RepeatedCases
pub mod SourceParts
pub mod TextOfPiece
