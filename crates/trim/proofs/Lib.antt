pub mod Made
pub mod Sorting
pub mod Layers
pub mod Steps
pub mod Iterations
pub mod Entries
pub mod Families
pub mod Runs
