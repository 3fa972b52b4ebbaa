-- What only contracts inside the code cite, in `calls` and above it.
pub mod Front
pub mod Phase
pub mod Reply
