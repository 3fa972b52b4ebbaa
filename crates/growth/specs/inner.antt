-- What only contracts inside the code cite, in `growth` and above it.
pub mod Moving
