-- Laws behind the tests of lent memory; what the tests find out is defined in `graph`.
pub mod laws
