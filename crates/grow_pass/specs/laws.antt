-- Laws about the memory of a growing pass.
pub mod Grow
pub mod Growing
pub mod Take
