-- An answer on paper (SPECIFICATION 9): numbers without sign, which a host of another language finds at the front of a list that it lends.
use Rattle.std.specs.Prelude.{ℕ, ◌≡◌, not, List, [], ◌∷◌, ◌++◌, nat_abs, length, drop}
use Rattle.std.specs.Int.Signed.{non_neg}
use Rattle.answers.specs.Outcome.{Answer}
use Rattle.answers.specs.Outcome.{Length, Done, Node, Prepared, Vertex, Refused}
use Rattle.answers.specs.declared.MaxUpdateLength.{MaxUpdateLength}
use Rattle.answers.specs.declared.MaxUpdateLength.TheVariants.{NonZeroGrow, Unlimited, Conflicting, TouchingVirtual, BlossomNeedExpand, VertexShrinkStop, VertexShrinkStopPeer}
use Rattle.answers.specs.Answer.{flag}

-- of a length answer: the number of its case, and its values; a length is its sign, 1 below 0 and 0 else, and its magnitude
unfoldable pub length_numbers : MaxUpdateLength → List ℕ
length_numbers (NonZeroGrow l e) = 0 ∷ flag (not (non_neg l)) ∷ nat_abs l ∷ flag e ∷ []
length_numbers (Unlimited e) = 1 ∷ flag e ∷ []
length_numbers (Conflicting p g n h) = 2 ∷ p ∷ g ∷ n ∷ h ∷ []
length_numbers (TouchingVirtual n g v) = 3 ∷ n ∷ g ∷ v ∷ []
length_numbers (BlossomNeedExpand n) = 4 ∷ n ∷ []
length_numbers (VertexShrinkStop n) = 5 ∷ n ∷ []
length_numbers (VertexShrinkStopPeer n p g) = 6 ∷ n ∷ p ∷ g ∷ []

-- of any answer
unfoldable pub answer_numbers : Answer → List ℕ
answer_numbers (Length m) = length_numbers m
answer_numbers Done = 7 ∷ []
answer_numbers (Node n) = 8 ∷ n ∷ []
answer_numbers (Prepared k) = 9 ∷ k ∷ []
answer_numbers (Vertex v) = 10 ∷ v ∷ []
answer_numbers (Refused k) = 11 ∷ k ∷ []

-- the answer a is r on paper: the same number of its case, and the same values
abbrev pub OnPaper : Answer → Answer → Type 0
OnPaper a r = answer_numbers a ≡ answer_numbers r

-- the numbers were written over the front of the list, k of them; the rest of it is left
pub record Tells (numbers list list' : List ℕ) (k : ℕ) : Type 0 where
  pub listed : list' ≡ numbers ++ drop (length numbers) list
  pub count : k ≡ length numbers
