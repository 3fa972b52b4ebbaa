-- The gap of an edge, and laws about it.
pub mod Gap
pub mod laws
