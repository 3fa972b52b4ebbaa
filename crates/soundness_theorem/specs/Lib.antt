-- Calls whose tests are passed leave a sound state sound, and on reached states every test is passed: what is claimed; the proofs are in laws/.
pub mod KeptSound
pub mod Theorems
pub mod Examples
pub mod laws
