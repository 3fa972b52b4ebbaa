-- What the contract of the exported opening cites.
pub mod Told
