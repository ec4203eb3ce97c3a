pub mod Exchanges
pub mod Grades
pub mod Gradings
