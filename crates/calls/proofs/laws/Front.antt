-- Laws of what stands at the front of a scratch: nothing where it is all zero, and the same seen from a block of the same counts.
use Rattle.std.specs.Prelude.{◌≡◌, ℕ, List, [], ℤ}
use Rattle.std.proofs.Common.{sym, ap, ◌∙◌}
use Rattle.graph.specs.State.{State}
use Rattle.graph.specs.Layout.{state_of}
use Rattle.graph.specs.Form.{Formed}
use Rattle.graph.specs.inner.Form.{Becomes}
use Rattle.pass.specs.Scratch.{zero_scratch, scratch_of}
use Rattle.pass.proofs.laws.Scratch.{scratch-sections, holding-zero, zero-holding}
use Rattle.calls.specs.inner.Front.{FrontHolds}

module _ {b t : List ℤ} (f : Formed b) where
  pub front-none : t ≡ scratch_of (state_of b) → FrontHolds t (state_of b) []
  front-none e = holding-zero t _ _ (e ∙ ap zero_scratch (scratch-sections f))

  pub none-front : FrontHolds t (state_of b) [] → t ≡ scratch_of (state_of b)
  none-front h = zero-holding t _ _ h ∙ ap zero_scratch (sym (scratch-sections f))

module _ {b b' t : List ℤ} {c : State} {l : List ℕ} (x : Becomes b b' c) where
  pub front-before : FrontHolds t (state_of b') l → FrontHolds t (state_of b) l
  front-before h = rw (x.sides, x.vertices) at h

  pub front-after : FrontHolds t (state_of b) l → FrontHolds t (state_of b') l
  front-after h = rw (x.sides, x.vertices) h
