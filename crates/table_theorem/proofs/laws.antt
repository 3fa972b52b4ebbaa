-- Laws from which the theorems follow.
pub mod Depth
pub mod Table
pub mod Feasible
pub mod Moved
pub mod History
pub mod OneByOne
pub mod Duals
pub mod Runs
pub mod Kept
pub mod Append
