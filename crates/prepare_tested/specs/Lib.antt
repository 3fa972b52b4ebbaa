-- The contracts of `prepare_tested` cite the definitions in `pass`; laws are in laws/.
pub mod laws
