-- What only contracts inside the code cite, in `graph` and above it.
pub mod Insert
pub mod Readable
pub mod Replace
pub mod Scans
pub mod Cut
pub mod Flags
pub mod Form
pub mod Found
pub mod Kept
pub mod Lists
pub mod Opened
pub mod Recounted
pub mod SidesAt
pub mod Counts
