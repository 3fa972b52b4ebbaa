-- The invariant, of plain functions on sides and vertices: depths, a vertex released, a vertex taken, what is left alone.
pub mod Depth
pub mod TakenVertex
pub mod Take
pub mod Release
pub mod Frame
