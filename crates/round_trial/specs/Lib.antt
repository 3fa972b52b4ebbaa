-- What the contracts of `round_trial` cite, and its laws.
pub mod Trial
pub mod inner
pub mod laws
