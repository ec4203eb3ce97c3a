pub mod Seeks
pub mod Listing
pub mod Halves
pub mod Blocks
pub mod Turns
pub mod Accepting
pub mod Facts
