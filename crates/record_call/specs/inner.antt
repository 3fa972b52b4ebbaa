-- What only contracts inside the code cite.
pub mod Long
