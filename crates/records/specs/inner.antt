-- What only contracts inside the code cite, in `records` and above it.
pub mod Table
