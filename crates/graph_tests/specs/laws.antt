-- Laws of the test of the graph.
pub mod Begin
pub mod Range
pub mod Walk
