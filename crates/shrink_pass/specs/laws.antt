-- Laws about the memory of a shrinking pass.
pub mod Finish
pub mod Idle
pub mod Mark
pub mod Release
pub mod Shrink
pub mod Shrinking
pub mod Top
