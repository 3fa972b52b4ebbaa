-- What the contracts inside `remove` cite. The call itself is defined in crate `calls` (specs/Remove).
pub mod inner
pub mod laws
