-- The laws from which the theorems and the functions' proofs follow.
pub mod Loops
pub mod Marks
pub mod Wiring
pub mod Choice
pub mod Rows
pub mod Accepted
pub mod Members
pub mod Reached
pub mod Certified
pub mod Facts
pub mod Right
pub mod Verdict
pub mod Streamed
