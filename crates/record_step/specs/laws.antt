-- Laws of a run in memory.
pub mod Asking
pub mod Few
pub mod Holding
pub mod Standing
