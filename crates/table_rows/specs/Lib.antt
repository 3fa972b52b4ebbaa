-- What the contracts of `table_rows` cite, and its laws.
pub mod Row
pub mod laws
