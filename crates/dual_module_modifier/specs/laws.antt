-- Laws behind that promise.
pub mod Called
