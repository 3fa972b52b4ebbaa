-- Cases of an answer.
use Rattle.std.specs.Prelude.{◌≡◌, Bool, false, ℤ}
use Rattle.std.proofs.Math.Path.{refl}
use Rattle.std.proofs.Common.{sym}
use Rattle.std.proofs.Math.Bool.{true}
use Rattle.graph.specs.laws.Members.{clash}
use Rattle.answers.specs.Outcome.{Answer}
use Rattle.answers.specs.Outcome.{Length, Done, Node, Prepared, Vertex, Refused}
use Rattle.answers.specs.declared.MaxUpdateLength.{MaxUpdateLength}
use Rattle.answers.specs.declared.MaxUpdateLength.TheVariants.{NonZeroGrow, Unlimited, Conflicting, TouchingVirtual, BlossomNeedExpand, VertexShrinkStop, VertexShrinkStopPeer}
use Rattle.answers.specs.Answer.{free_or, is_free, accepted, refusal_of}

-- An answer is free with a limit, free without one, or neither: then only its being none of both counts.
module _ (P : Answer → Type 0) (limited : (l : ℤ) (e : Bool) → P (Length (NonZeroGrow l e)))
    (unlimited : (e : Bool) → P (Length (Unlimited e))) (other : (a : Answer) → is_free a ≡ false → P a) where
  length-cases : (m : MaxUpdateLength) → P (Length m)
  unfolding is_free
  length-cases (NonZeroGrow l e) = limited l e
  length-cases (Unlimited e) = unlimited e
  length-cases (Conflicting p g n h) = other (Length (Conflicting p g n h)) refl
  length-cases (TouchingVirtual n g v) = other (Length (TouchingVirtual n g v)) refl
  length-cases (BlossomNeedExpand n) = other (Length (BlossomNeedExpand n)) refl
  length-cases (VertexShrinkStop n) = other (Length (VertexShrinkStop n)) refl
  length-cases (VertexShrinkStopPeer n p g) = other (Length (VertexShrinkStopPeer n p g)) refl

  pub free-cases : (a : Answer) → P a
  unfolding is_free
  free-cases (Length m) = length-cases m
  free-cases Done = other Done refl
  free-cases (Node n) = other (Node n) refl
  free-cases (Prepared k) = other (Prepared k) refl
  free-cases (Vertex v) = other (Vertex v) refl
  free-cases (Refused k) = other (Refused k) refl

-- what is not free gives z
module _ {A : Type 0} (z : A) (f : ℤ → Bool → A) (g : Bool → A) where
  length-other : (m : MaxUpdateLength) → is_free (Length m) ≡ false → free_or z f g (Length m) ≡ z
  unfolding is_free
  length-other (NonZeroGrow l e) h = clash true refl h
  length-other (Unlimited e) h = clash true refl h
  length-other (Conflicting p k n q) h = refl
  length-other (TouchingVirtual n k v) h = refl
  length-other (BlossomNeedExpand n) h = refl
  length-other (VertexShrinkStop n) h = refl
  length-other (VertexShrinkStopPeer n p k) h = refl

  pub free_other : (a : Answer) → is_free a ≡ false → free_or z f g a ≡ z
  free_other (Length m) h = length-other m h
  free_other Done h = refl
  free_other (Node n) h = refl
  free_other (Prepared k) h = refl
  free_other (Vertex v) h = refl
  free_other (Refused k) h = refl

-- an accepted answer is no refusal
pub accepted-refusal : (a : Answer) → accepted a ≡ true → refusal_of a ≡ 0
unfolding accepted refusal_of
accepted-refusal (Length m) h = refl
accepted-refusal Done h = refl
accepted-refusal (Node n) h = refl
accepted-refusal (Prepared k) h = refl
accepted-refusal (Vertex v) h = refl
accepted-refusal (Refused k) h = clash true refl (sym h)
