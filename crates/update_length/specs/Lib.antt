-- What the contracts of `update_length` cite: the definitions; their laws are in laws/.
pub mod Scan
pub mod Opens
pub mod inner
pub mod laws
