-- Laws of the trial.
pub mod Step
pub mod Trying
pub mod InTurn
