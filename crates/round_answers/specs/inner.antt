-- What only contracts inside the code cite, in `round_answers` and above it.
pub mod Asked
