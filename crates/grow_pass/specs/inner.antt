-- What only contracts inside the code cite, in `grow_pass` and above it.
pub mod Growing
