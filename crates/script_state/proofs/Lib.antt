pub mod StyleCode
pub mod Comments
pub mod Literals
pub mod PlainTexts
