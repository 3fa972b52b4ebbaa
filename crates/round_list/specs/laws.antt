-- Laws of stops, and of entries in a lent list.
pub mod Stops
pub mod Listing
