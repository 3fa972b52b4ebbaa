-- Laws behind what refuses the call.
pub mod Distinct
pub mod Numbers
