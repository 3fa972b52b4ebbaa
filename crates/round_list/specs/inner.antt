-- What only contracts inside the code cite, in `round_list` and above it.
pub mod Listed
