-- What only contracts inside the code cite, in `update_length` and above it.
pub mod Length
