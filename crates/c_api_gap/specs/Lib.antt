-- What the contract of the exported gap cites.
pub mod Told
