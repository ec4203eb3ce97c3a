pub mod Codings
pub mod Labels
pub mod Laws
pub mod Positions
pub mod PositionsLemmas
pub mod Ranges
pub mod Slots
