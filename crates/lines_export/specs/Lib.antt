-- A record that is there whole, and the laws that the proofs of `lines_export` use; the other definitions stand in
-- `records` and `record_step`.
pub mod Whole
pub mod laws
