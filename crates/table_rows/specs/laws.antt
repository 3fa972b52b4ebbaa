-- Laws of the test of one side.
pub mod Side
