-- Laws behind a change of weights.
pub mod Load
