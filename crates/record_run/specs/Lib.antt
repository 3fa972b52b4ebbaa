-- What a run gives is defined in crate `records` (specs/Run). Here: the law of its end.
pub mod laws
