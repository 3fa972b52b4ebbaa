-- What the contract of the exported opening from a sheet cites.
pub mod Told
