-- Laws about answers told as numbers.
pub mod Words
