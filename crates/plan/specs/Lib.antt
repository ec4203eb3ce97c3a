pub mod Loads
pub mod Views
