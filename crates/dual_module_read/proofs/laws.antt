-- Laws behind the calls that only read.
pub mod Read
