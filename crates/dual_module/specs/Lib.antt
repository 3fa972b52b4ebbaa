-- What the contracts of `dual_module` cite: what a call on lent memory leaves; its laws are in proofs/laws/.
pub mod Called
pub mod inner
