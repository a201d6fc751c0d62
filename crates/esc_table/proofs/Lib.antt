pub mod EscapedParts
pub mod StatesKept
mod PassedSoFar
mod PlainTexts
mod PushedSoFar
mod RowSearch
