-- The laws from which the claim follows.
pub mod Rounds
pub mod Steps
pub mod EveryRun
pub mod Plain
pub mod Input
pub mod Reading
pub mod Fitting
pub mod Tables
pub mod Carried
pub mod Lent
pub mod Hosted
pub mod Listed
pub mod Gap
pub mod FromSheet
pub mod Program
pub mod Demand3
pub mod NodeRecorded
