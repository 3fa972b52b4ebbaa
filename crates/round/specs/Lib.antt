-- What the contracts of `round` cite, and its laws.
pub mod inner
pub mod laws
