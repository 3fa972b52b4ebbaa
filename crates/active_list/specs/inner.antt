-- What only contracts inside the code cite, in `active_list` and above it.
pub mod Renewal
