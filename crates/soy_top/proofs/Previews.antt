-- Previews.
pub mod Gathering
pub mod PreviewAnswers
pub mod PreviewTexts
pub mod SeenAnswers
pub mod ShownNumbers
pub mod ShownPages
