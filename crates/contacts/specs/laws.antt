-- Laws behind the list of contacts.
pub mod Outermost
pub mod Listed
pub mod Rule
