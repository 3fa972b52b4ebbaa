-- The proofs, by subject; each subject rests on those above it.

-- the invariant over plain functions: depths, one vertex released, one taken, what is left alone
pub mod invariant
-- the invariant of a state, and soundness in parts
pub mod state
-- the active list
pub mod Active
-- the two passes
pub mod shrink
pub mod grow
-- preparation, in either direction, and the scan of a prepared node
pub mod prepare
-- accepted growth
pub mod Growth
-- a defect and a blossom inserted
pub mod insert
-- a state without nodes
pub mod Blank
-- every call that opens no blossom
pub mod Calls
-- a trial over the active nodes
pub mod Round
pub mod TrialSteps
-- what a state keeps of the past; a blossom opened; so every call, and every reachable state
pub mod past
pub mod remove
-- what follows
pub mod Relied
pub mod Group
pub mod Asked
pub mod GroupAnswer
pub mod Refused
pub mod Length
pub mod Facts
pub mod Occupied
pub mod WithoutBlossoms
-- the gap of an edge
pub mod Gap
