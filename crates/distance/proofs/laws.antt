-- The proofs behind Theorems.
pub mod Choice
pub mod Side
pub mod Walk
pub mod Relax
pub mod Distance
pub mod Leaving
pub mod Certificate
pub mod Settled
pub mod Nearest
pub mod Reach
pub mod Table
pub mod Feasible
pub mod Injective
pub mod Edge
pub mod Needed
