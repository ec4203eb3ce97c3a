pub mod Faults
pub mod Lists
pub mod Halves
pub mod Files
pub mod Accepts
