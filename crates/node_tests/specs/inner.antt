pub mod Four
pub mod Marks
