-- The names of placeholders and selectors.
pub mod MessageNames
pub mod NameGroups
pub mod NameSteps
pub mod NamedCuts
pub mod OwnNames
pub mod RoleNames
pub mod SingleNames
pub mod TagNames
