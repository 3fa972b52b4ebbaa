-- What only contracts inside the code cite, in `blossom` and above it.
pub mod Circle
