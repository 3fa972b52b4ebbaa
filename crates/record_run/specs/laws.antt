-- The law of the end of a run.
pub mod Ends
