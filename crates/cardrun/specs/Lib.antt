-- A run whose input comes in blocks. Theorems says that the blocks join to the run.
pub mod Blocks
pub mod Theorems
pub mod laws
