-- An answer read from its numbers.
use Rattle.std.specs.Prelude.{ℕ, ◌≡◌, refl, true, false, List, ℤ, pos, negsuc, neg_ℤ, eqb, get_or, if◌then◌else◌}
use Rattle.std.proofs.Common.{sym, ap, ◌∙◌}
use Rattle.answers.specs.Outcome.{Answer}
use Rattle.answers.specs.Outcome.{Length, Done, Node, Prepared, Vertex, Refused}
use Rattle.answers.specs.declared.MaxUpdateLength.{MaxUpdateLength}
use Rattle.answers.specs.declared.MaxUpdateLength.TheVariants.{NonZeroGrow, Unlimited, Conflicting, TouchingVirtual, BlossomNeedExpand, VertexShrinkStop, VertexShrinkStopPeer}
use Rattle.answers.specs.Answer.{flag}
use Rattle.answers.specs.Numbers.{length_numbers, answer_numbers, OnPaper}

-- a length by its sign and its magnitude
signed : ℕ → ℕ → ℤ
signed s m = if eqb s 0 then pos m else neg_ℤ (pos m)

-- the answer of case k with the values p, q, r, s
case_of : ℕ → ℕ → ℕ → ℕ → ℕ → Answer
case_of k p q r s =
    if eqb k 0 then Length (NonZeroGrow (signed p q) (eqb r 1))
    else if eqb k 1 then Length (Unlimited (eqb p 1))
    else if eqb k 2 then Length (Conflicting p q r s)
    else if eqb k 3 then Length (TouchingVirtual p q r)
    else if eqb k 4 then Length (BlossomNeedExpand p)
    else if eqb k 5 then Length (VertexShrinkStop p)
    else if eqb k 6 then Length (VertexShrinkStopPeer p q r)
    else if eqb k 7 then Done
    else if eqb k 8 then Node p
    else if eqb k 9 then Prepared p
    else if eqb k 10 then Vertex p
    else Refused p

decoded : List ℕ → Answer
decoded l = case_of (get_or l 0 0) (get_or l 1 0) (get_or l 2 0) (get_or l 3 0) (get_or l 4 0)

length-decoded : (m : MaxUpdateLength) → decoded (length_numbers m) ≡ Length m
unfolding length_numbers flag decoded case_of signed
length-decoded (NonZeroGrow (pos l) true) = refl
length-decoded (NonZeroGrow (pos l) false) = refl
length-decoded (NonZeroGrow (negsuc l) true) = refl
length-decoded (NonZeroGrow (negsuc l) false) = refl
length-decoded (Unlimited true) = refl
length-decoded (Unlimited false) = refl
length-decoded (Conflicting p g n h) = refl
length-decoded (TouchingVirtual n g v) = refl
length-decoded (BlossomNeedExpand n) = refl
length-decoded (VertexShrinkStop n) = refl
length-decoded (VertexShrinkStopPeer n p g) = refl

answer-decoded : (a : Answer) → decoded (answer_numbers a) ≡ a
unfolding answer_numbers decoded case_of
answer-decoded (Length m) = length-decoded m
answer-decoded Done = refl
answer-decoded (Node n) = refl
answer-decoded (Prepared k) = refl
answer-decoded (Vertex v) = refl
answer-decoded (Refused k) = refl

pub decoded-same : {a r : Answer} → OnPaper a r → a ≡ r
decoded-same {a} {r} e = sym (answer-decoded a) ∙ ap decoded e ∙ answer-decoded r
