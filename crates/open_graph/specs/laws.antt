-- Laws of opening.
pub mod Blank
pub mod Join
pub mod Open
pub mod OpenSteps
pub mod OpenedBlock
pub mod Write
