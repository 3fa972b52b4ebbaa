-- What the functions over the active list promise, and laws about it.
pub mod inner
pub mod laws
