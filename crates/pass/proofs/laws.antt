-- Laws about the definitions of `pass`.
pub mod Another
pub mod Counts
pub mod Fits
pub mod GrowSound
pub mod Holders
pub mod Passes
pub mod Prepare
pub mod Preparing
pub mod Ready
pub mod Scratch
pub mod Idle
pub mod Noted
pub mod Once
pub mod Leaves
pub mod KeepsSound
