-- What the contracts inside `edge_modifier` cite. The call itself is defined in crate `calls` (specs/Erasures).
pub mod inner
pub mod laws
