pub mod Broadcasts
pub mod Columns
pub mod Grades
pub mod Rounds
pub mod Tables
