-- Laws for the functions of `open_graph`; the definitions that their contracts cite are in crate `graph` and in inner/.
pub mod inner
pub mod laws
