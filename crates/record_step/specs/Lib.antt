-- What the contracts inside `record_step` cite: where a run stands, by what the memory holds. What a run gives is defined in crate `records` (specs/Run).
pub mod Standing
pub mod laws
