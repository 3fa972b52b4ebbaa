-- What a run of demand 3 (SPECIFICATION 11.3) hands over of itself gets yes from the check of a table (SPECIFICATION
-- 17). Own says what it hands over, Theorems that it gets yes; Examples has graph P.
pub mod Own
pub mod Examples
