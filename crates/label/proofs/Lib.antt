pub mod Elements
pub mod Scanning
pub mod Shapes
pub mod Reading
pub mod Typing
pub mod Ordering
pub mod Keys
pub mod Showing
