-- Laws about the test beside a preparation for shrinking.
pub mod Cases
pub mod Testing
