-- What the contracts of `record_call` cite: the call of a body, on an opened block; and its laws.
pub mod Call
pub mod inner
pub mod laws
