-- The laws from which the theorems follow.
pub mod Long
pub mod Met
pub mod Prepared
pub mod Tight
pub mod Contact
pub mod Meaning
