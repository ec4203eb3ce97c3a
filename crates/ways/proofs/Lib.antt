pub mod Answering
pub mod Branches
pub mod Climbing
pub mod Depths
pub mod Finding
pub mod Naming
pub mod Placing
pub mod Writing
