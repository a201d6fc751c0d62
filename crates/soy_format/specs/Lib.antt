pub mod Ascii
pub mod Levels
pub mod FormattedText
pub mod FormattedString
pub mod FormattedExpression
pub mod FormattedBody
pub mod Formatted
pub mod WithoutSpans
