-- What the contracts of `c_api` cite: an answer as numbers, and what an exported call promises; its laws are in laws/.
pub mod Words
pub mod Told
pub mod laws
