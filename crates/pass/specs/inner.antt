-- What only contracts inside the code cite, in `pass` and above it.
pub mod Ready
pub mod Another
pub mod Ends
pub mod Free
pub mod Once
pub mod Own
pub mod Scratch
