-- What only contracts inside the code cite, in `round_trial` and above it.
pub mod Step
