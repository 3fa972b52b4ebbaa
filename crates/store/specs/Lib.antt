-- Laws for the functions of `store`; the definitions that their contracts cite are in crate `graph` and in inner/.
pub mod inner
pub mod laws
