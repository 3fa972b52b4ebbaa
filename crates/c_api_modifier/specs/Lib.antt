-- What the exported change of weights promises.
pub mod Told
