-- What the contracts of `grow_pass` cite beside the definitions in `pass`; its laws are in laws/.
pub mod inner
pub mod laws
