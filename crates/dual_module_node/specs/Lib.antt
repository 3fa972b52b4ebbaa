-- What is told of a node, and what reading it promises on lent memory; its laws are in laws/.
pub mod Outcome
pub mod ReadNode
pub mod laws
