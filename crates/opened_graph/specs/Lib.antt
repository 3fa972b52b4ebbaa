-- The graph of an opening, as distances are defined on it. OpenedGraph defines it; laws/ says that it is the opened state's,
-- and well-formed where the opening is accepted.
pub mod OpenedGraph
pub mod laws
