pub mod Ascends
pub mod EscapedText
pub mod HtmlRows
pub mod LeadBytes
pub mod PlainPrefix
pub mod RowPairs
pub mod RowText
pub mod StateAfter
