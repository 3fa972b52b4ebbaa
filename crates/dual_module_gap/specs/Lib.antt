-- What the public call that reads a gap promises.
pub mod Outcome
pub mod GapRead
