-- What the contracts of `round_answers` cite, and its laws.
pub mod inner
pub mod laws
