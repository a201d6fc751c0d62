-- The walk, and states at points.
pub mod Exact
pub mod AddsPlaces
pub mod Complete
pub mod FewStates
pub mod Holds
pub mod HolePlaces
pub mod Moves
pub mod PagePlaces
pub mod PageStates
pub mod PointsAndHolds
pub mod SamePlacings
pub mod Sound
