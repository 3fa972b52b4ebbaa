-- Laws about answers.
pub mod Answer
pub mod Numbers
pub mod Decoded
