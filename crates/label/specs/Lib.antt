pub mod Faults
pub mod Labels
pub mod Orders
pub mod Scans
pub mod Shown
pub mod Signs
pub mod Typed
