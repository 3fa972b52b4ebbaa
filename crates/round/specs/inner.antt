-- What only contracts inside the code cite, in `round` and above it.
pub mod Group
