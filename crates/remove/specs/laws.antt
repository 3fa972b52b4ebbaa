-- Laws behind the opening of a blossom.
pub mod Stops
pub mod Opened
pub mod Call
