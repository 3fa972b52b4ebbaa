-- Laws about the gap of an edge.
pub mod Gap
