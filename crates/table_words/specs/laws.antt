-- Laws of words that are handed over, and of marks.
pub mod Words
pub mod Loops
