-- Laws about the definitions of `update_length`.
pub mod Length
pub mod Scanning
pub mod Long
