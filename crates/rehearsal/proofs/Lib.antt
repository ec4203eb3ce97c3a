pub mod Example
pub mod Examples
pub mod Gradings
pub mod Lines
pub mod Rounds
