-- What the opening of a blossom promises on lent memory.
pub mod Called
