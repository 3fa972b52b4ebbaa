pub mod Blocks
pub mod End
pub mod Keep
