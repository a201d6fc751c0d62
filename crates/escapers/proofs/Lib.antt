mod AlphanumericTexts
pub mod ComponentTexts
pub mod HtmlTexts
pub mod KeptByRows
pub mod LackedByRows
mod PercentBytes
mod PlainForms
mod PlainPrefixes
mod Pushed
mod SchemeSearch
mod Schemes
mod ShortForms
pub mod StartTexts
pub mod StringStates
mod UriForms
mod UriSets
pub mod ValueStates
