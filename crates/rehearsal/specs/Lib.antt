pub mod Cave
pub mod Gradings
pub mod Lines
pub mod Rounds
pub mod Table
