-- On a state with the invariant the sides at a vertex never decide whether a defect may stand there.
use Rattle.std.specs.Prelude.{ℕ, ◌≡◌, true, false, ◌||◌, eqb}
use Rattle.std.proofs.Common.{sym, ◌∙◌}
use Rattle.std.proofs.Math.Bool.{not}
use borrow.Author.Tests.{eqb-true, eq-eqb, not-false}
use Rattle.graph.specs.Basic.{member}
use Rattle.graph.specs.State.{State, holder_at, vertex_holder_at, virtual_at, defect_at, sides_at}
use Rattle.graph.specs.laws.Members.{by-test, or-neither-right}
use Rattle.calls.specs.Insert.{occupied}
use Rattle.calls.specs.Occupied.{vertex_decides, is_held}
use Rattle.calls.proofs.laws.Occupied.{decides-occupied, sides-occupied}
use Rattle.reachable.specs.Invariant.{Invariant}
use Rattle.reachable.specs.laws.state.Numbers.{numbers-graph-ok}
use Rattle.reachable.specs.laws.prepare.Preparation.{invariant-numbers}
use Rattle.reachable.specs.laws.TrialSteps.{none_from}
use Rattle.reachable.specs.laws.Facts.{free-together}

module _ (c : State) (g : Invariant c) (v : ℕ) where
  -- a vertex that does not decide is not held, and so are its sides
  vertex-free : vertex_decides c v ≡ false → vertex_holder_at c v ≡ 0
  unfolding vertex_decides
  vertex-free h =
      let a = not (eqb (virtual_at c v) 0) || not (eqb (defect_at c v) 0) in
      eqb-true _ _ (not-false _ (or-neither-right a (not (eqb (vertex_holder_at c v) 0)) h))

  side-free : vertex_decides c v ≡ false → (t : ℕ) → member t (sides_at c v) ≡ true → is_held c t ≡ false
  side-free h t m =
      let at = (numbers-graph-ok c (invariant-numbers g)).at_out v t m in
      let e : holder_at c t ≡ 0 = (free-together c g t at.0).1 (rw at.1 (vertex-free h)) in
      rw (eq-eqb (holder_at c t) 0 e)

  pub decides-alone : vertex_decides c v ≡ occupied c v
  decides-alone =
      by-test (vertex_decides c v)
      (λ h. h ∙ decides-occupied c v h)
      (λ h. h ∙ sym (none_from (is_held c) (sides_at c v) (side-free h)) ∙ sides-occupied c v h)
