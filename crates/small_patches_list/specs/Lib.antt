-- The lines of the program: one for each small patch. Theorems says what a line tells.
pub mod Listing
pub mod Theorems
pub mod laws
