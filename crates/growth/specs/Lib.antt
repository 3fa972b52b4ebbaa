-- What the contracts of `growth` cite: the definitions; their laws are in proofs/laws/.
pub mod Growth
pub mod Opens
pub mod inner
