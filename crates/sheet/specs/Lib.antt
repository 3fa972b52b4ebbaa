-- What the contracts of `sheet` cite (SPECIFICATION 15): the weight of a value (Weight), a sheet (Sheet), the call
-- (Called) and what it answers (Outcome). What is proved of them: Theorems, which speaks of the nearest whole number (Nearest); the proofs are in
-- laws/. Examples has small sheets.
pub mod Weight
pub mod Sheet
pub mod Outcome
pub mod Called
pub mod Nearest
pub mod Theorems
pub mod Opens
pub mod Examples
pub mod laws
