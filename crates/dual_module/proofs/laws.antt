-- Laws about the promises of `dual_module`.
pub mod Called
pub mod CircleStore
pub mod Sound
