-- What the public calls on all clusters promise, and their laws.
pub mod Called
pub mod laws
