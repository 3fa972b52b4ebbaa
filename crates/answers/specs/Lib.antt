-- What a call answers, an answer as numbers, and laws about them.
pub mod Outcome
pub mod Answer
pub mod Numbers
pub mod Opens
pub mod Theorems
pub mod laws
