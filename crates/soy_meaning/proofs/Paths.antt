-- Paths of plans, and what fills them.
pub mod SomePaths
pub mod BuiltPlans
pub mod WayPlans
pub mod BlockFrames
pub mod InnerFrames
pub mod FinePaths
pub mod Pages
pub mod KeptForms
pub mod EscapedTexts
