-- Laws of the call of a body.
pub mod Asking
pub mod Long
