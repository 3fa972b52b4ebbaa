-- A row of a block as a part of its words, and the laws of these parts.
pub mod inner
pub mod laws
