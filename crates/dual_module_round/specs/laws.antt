-- Laws of the trial on a second block.
pub mod Called
