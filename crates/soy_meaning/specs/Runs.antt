-- Runs under data: the paths that they go along, the places of what fills these, and runs with the same choices.
pub mod TranslationFits
pub mod FrameRun
pub mod ComesNext
pub mod GivenAt
pub mod StopsWithin
pub mod RunsAlong
pub mod TypedData
pub mod RunPlaces
pub mod PicksValues
pub mod EqualChoices
