-- Laws of reading a node.
pub mod ReadNode
