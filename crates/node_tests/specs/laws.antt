-- Laws of the test of the nodes.
pub mod Active
pub mod Entry
pub mod Four
pub mod Marks
pub mod Pack
pub mod Removed
