-- What the contracts of `round_list` cite, and its laws.
pub mod Asked
pub mod inner
pub mod laws
