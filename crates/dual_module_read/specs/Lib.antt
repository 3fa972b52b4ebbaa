-- What the contracts of `dual_module_read` cite; its laws are in proofs/laws/.
pub mod Read
