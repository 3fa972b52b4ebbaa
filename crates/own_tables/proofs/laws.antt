-- The proof behind Theorems.
pub mod Duals
pub mod Own
