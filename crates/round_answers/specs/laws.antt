-- Laws of the answers of the active nodes.
pub mod Answers
