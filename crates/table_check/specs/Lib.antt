-- A table from another decoder (SPECIFICATION 17). Verdict says when it is right, and Outcome what it gets; Theorems says what is proved. Tests is
-- what the code does, with `table_distances` and `table_rows`.
pub mod Outcome
pub mod Verdict
pub mod Tests
pub mod Streamed
pub mod Theorems
pub mod laws
