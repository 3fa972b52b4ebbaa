-- Contacts are defined in crate `calls` (specs/Contacts). Here: that the list has exactly the contacts of the rule.
pub mod Rule
pub mod Theorems
pub mod laws
