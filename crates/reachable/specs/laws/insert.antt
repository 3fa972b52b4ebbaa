-- Inserting a defect or a blossom keeps the invariant.
pub mod NewNode
pub mod DefectState
pub mod DefectNumbers
pub mod DefectLive
pub mod Defect
pub mod Circle
pub mod JoinedLists
pub mod BlossomLabels
pub mod BlossomState
pub mod BlossomLive
pub mod BlossomNumbers
pub mod Blossom
