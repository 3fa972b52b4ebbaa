-- Laws of the writes that change the nodes and their lists.
pub mod From
pub mod Clear
pub mod Insert
pub mod Move
pub mod Replace
pub mod Store
pub mod Stretch
