pub mod Turned
pub mod Ranked
