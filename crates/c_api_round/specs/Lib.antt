-- What the contracts of the exported calls on all clusters cite.
pub mod Told
