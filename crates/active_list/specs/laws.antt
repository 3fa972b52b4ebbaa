-- Laws of the active list's words and of its renewal.
pub mod Words
pub mod Joining
pub mod Renewal
