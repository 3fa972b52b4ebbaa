-- What only contracts inside the code cite, in `open_graph` and above it.
pub mod Blank
pub mod Refusals
pub mod Written
