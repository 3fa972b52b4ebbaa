-- What only contracts inside the code cite, in `remove` and above it.
pub mod Opened
pub mod Stops
