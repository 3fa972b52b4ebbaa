-- What the contract of the exported check of a table cites.
pub mod Told
