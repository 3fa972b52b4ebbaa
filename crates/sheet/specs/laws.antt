-- The laws from which the theorems and the functions' proofs follow.
pub mod Nearest
pub mod Weight
pub mod Count
pub mod Sheet
pub mod Called
pub mod Opened
