-- A growing pass keeps the invariant.
pub mod TakeSides
pub mod Scan
pub mod Taking
pub mod TakeVertex
pub mod Pass
