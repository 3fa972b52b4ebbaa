-- Preparation: passes until none is called for.
pub mod Holders
pub mod Others
pub mod PassDone
pub mod FinishedState
pub mod Since
pub mod Preparation
pub mod Scan
pub mod Ends
