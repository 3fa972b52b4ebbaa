-- What a growing length says in the terms of matching: tight constraints, obstacles, feasible dual variables. Meaning has the words, Theorems the
-- statements, Examples shows that nothing is vacuous and where the converse fails. The proofs are in proofs/laws/.
pub mod Meaning
