-- What the contracts of `shrink_pass` cite beside the definitions in `pass`; its laws are in laws/.
pub mod inner
pub mod laws
