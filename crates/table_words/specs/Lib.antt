-- What a lab hands over, in words (SPECIFICATION 17): Handed reads them; Sides has the sides of the edges and marks on vertices.
pub mod Handed
pub mod Sides
pub mod laws
