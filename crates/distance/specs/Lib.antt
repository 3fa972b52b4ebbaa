-- Shortest distances on a weighted graph, and the growth table that follows from them. Start with Theorems.
pub mod Graph
pub mod Distance
pub mod Nearest
pub mod Reach
pub mod Table
pub mod Feasible
pub mod Opens
pub mod Examples
