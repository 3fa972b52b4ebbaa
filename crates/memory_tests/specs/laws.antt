-- Laws of the tests of lent memory.
pub mod Block
pub mod Memory
pub mod Whole
