-- What the contracts behind the tests of lent memory cite.
pub mod Known
