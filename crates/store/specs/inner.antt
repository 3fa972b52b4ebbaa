-- What only contracts inside the code cite, in `store` and above it.
pub mod Store
pub mod Wrote
