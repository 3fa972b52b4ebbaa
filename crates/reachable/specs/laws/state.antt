-- The invariant of a state, and soundness in parts.
pub mod Views
pub mod GraphOk
pub mod Numbers
pub mod Live
