-- Answers to commands, by their files.
pub mod AcceptedRender
pub mod HoldsInputs
pub mod IsCatalogue
pub mod IsChecked
pub mod IsFormatted
pub mod IsGenerated
pub mod IsPage
pub mod IsPlayed
pub mod IsPreview
pub mod IsRefusedFormat
pub mod IsStopped
pub mod IsText
pub mod OneText
