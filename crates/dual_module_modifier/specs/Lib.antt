-- What a change of weights promises on lent memory.
pub mod Called
pub mod laws
