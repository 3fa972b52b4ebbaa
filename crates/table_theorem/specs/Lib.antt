-- Demand 3 (SPECIFICATION 11.3) about the definitions: the growth table after any list of calls without a blossom is
-- the one worked out from distances. History and Runs define what Theorems states; Hypotheses shows that each of its
-- hypotheses is needed, Examples that it is not vacuous. The proofs are in proofs/laws/. About the code: crate `table_claim`.
pub mod Answers
pub mod History
pub mod Runs
pub mod Opens
pub mod Hypotheses
