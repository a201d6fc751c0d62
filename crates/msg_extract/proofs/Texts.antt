-- The canonical text of a message.
pub mod AsciiTexts
pub mod CanonicalReads
pub mod PieceLists
pub mod PluralPieces
pub mod QuotedRuns
pub mod TextOfParts
pub mod WrittenText
