pub mod Outcomes
pub mod ValueTexts
