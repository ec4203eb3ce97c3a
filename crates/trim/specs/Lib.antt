pub mod Trims
pub mod Steps
pub mod Iterations
pub mod Entries
pub mod Runs
