-- The proofs behind Theorems, and laws for the code.
pub mod Entries
pub mod Number
pub mod Weights
pub mod Listed
pub mod Opens
pub mod Spread
pub mod Reach
pub mod Count
pub mod Digits
pub mod Words
pub mod Loops
