-- What the loops of the test of the graph go through; what the test finds out is defined in `graph`.
pub mod inner
pub mod laws
