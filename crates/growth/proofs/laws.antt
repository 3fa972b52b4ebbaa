-- Laws about the definitions of `growth`.
pub mod Gap
pub mod Accepted
pub mod Growth
pub mod Moving
