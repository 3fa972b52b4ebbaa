-- Laws of the lines.
pub mod Listing
pub mod Said
