-- Laws about the definitions of `records`.
pub mod Lines
pub mod Decode
pub mod Write
pub mod Told
pub mod Table
pub mod Contact
pub mod Setup
pub mod Opening
