-- The proofs, by subject; each subject rests on those above it.

-- a shrinking pass that passes the test frees only what the node held
pub mod Freed
-- soundness with the lists of outermost nodes, through a preparation for shrinking
pub mod Lists
-- sound states, and what keeps them
pub mod States
-- preparation, length, growth, advance, grow state, clear
pub mod Calls
-- a defect and a blossom inserted
pub mod Defect
pub mod Blossom
-- on reached states every test is passed
pub mod Reached
