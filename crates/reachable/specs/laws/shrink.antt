-- A shrinking pass keeps the invariant.
pub mod FreeSides
pub mod ReleaseVertex
pub mod Pass
