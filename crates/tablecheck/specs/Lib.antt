-- What a table in a file gets.
pub mod File
pub mod laws
