-- Laws of the graph of an opening.
pub mod Graph
pub mod Opening
