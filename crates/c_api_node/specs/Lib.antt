-- What the contract of the exported reading of a node cites.
pub mod Told
