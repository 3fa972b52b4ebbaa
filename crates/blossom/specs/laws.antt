-- Laws of circles and of the insertion of a blossom.
pub mod Blossom
pub mod Circle
pub mod Keeps
