-- Laws of the group.
pub mod Askable
pub mod Group
