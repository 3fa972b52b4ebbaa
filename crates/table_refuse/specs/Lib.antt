-- What refuses a table from another decoder (SPECIFICATION 17), and laws about it.
pub mod Refuse
pub mod laws
