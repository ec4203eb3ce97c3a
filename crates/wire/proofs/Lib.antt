pub mod Counts
pub mod Fills
pub mod Frames
pub mod Rows
pub mod Runs
pub mod Slotted
pub mod Votes
