-- Laws about a list of calls.
pub mod Refused
pub mod Leaves
pub mod Left
pub mod Done
pub mod Kinds
pub mod Steps
pub mod Run
pub mod Reached
