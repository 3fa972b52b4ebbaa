-- What the exported reading of a node promises: its answer as numbers, as those of crate `c_api`.
use Rattle.std.specs.Prelude.{ℕ, List, [], ◌∷◌, ℤ}
use Rattle.answers.specs.Outcome.{Refused as RefusedCall}
use Rattle.c_api.specs.Words.{answer_numbers, Told}
use Rattle.dual_module_node.specs.Outcome.{NodeRead}
use Rattle.dual_module_node.specs.Outcome.{Defect, Blossom, Refused}
use Rattle.dual_module_node.specs.ReadNode.{ReadNodeCalled}

-- Case 15 for a defect and 16 for a blossom. Behind it: the vertex or the first member; the grow state; the parent, 0
-- for none and else the number of the blossom + 1; the dual variable. A refusal as that of every call.
unfoldable pub read_node_numbers : NodeRead → List ℕ
read_node_numbers (Defect v x p y) = 15 ∷ v ∷ x ∷ p ∷ y ∷ []
read_node_numbers (Blossom m x p y) = 16 ∷ m ∷ x ∷ p ∷ y ∷ []
read_node_numbers (Refused k) = answer_numbers (RefusedCall k)

-- b and t are block and scratch; `list` is lent for the answer and is list' after, with k numbers of it in front
abbrev pub ReadNodeTold : (b t : List ℤ) (n : ℕ) (list list' : List ℕ) → ℕ → Type 0
ReadNodeTold b t n list list' k = Told read_node_numbers list list' k Unit (λ a. ReadNodeCalled b t n a)
