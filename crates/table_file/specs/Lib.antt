-- The sizes of a table in a file, and the text of its verdict.
pub mod File
