-- What only contracts inside the code cite, in `shrink_pass` and above it.
pub mod Shrinking
