-- What the proofs of the program use.
pub mod File
pub mod Read
