-- What the contracts inside `blossom` cite: a circle while it is joined. The call itself is defined in crate `calls` (specs/Insert).
pub mod inner
pub mod laws
