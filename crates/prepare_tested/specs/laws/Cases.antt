-- What the tests say, case by case.
use Rattle.std.specs.Prelude.{ℕ, ◌+◌, ◌≡◌, refl, ◌≢◌, Bool, true, false, ◌&&◌, ◌||◌, eqb}
use Rattle.std.proofs.Common.{arith}
use borrow.Author.Tests.{eq-eqb, ne_eqb}
use Rattle.graph.specs.Basic.{all}
use Rattle.graph.specs.State.{State, end_at, holder_at, sides_at, vertex_holder_at}
use Rattle.pass.specs.KeepsSound.{own_side, own_vertex, may_go, side_may_go}
use Rattle.shrink_pass.specs.inner.Shrinking.{vertex_left}

pub and_same : {a b x y : Bool} → a ≡ x → b ≡ y → (a && b) ≡ (x && y)
and_same e f = cc

module _ (n : ℕ) (c : State) where
  pub own-side-is : (s : ℕ) {h : ℕ} → h ≡ holder_at c s → (eqb h 0 || eqb h (n + 1)) ≡ own_side n c s
  unfolding own_side
  own-side-is s e = rw e

  pub may-go-free : (v : ℕ) → vertex_holder_at c v ≡ 0 → true ≡ may_go n c v
  unfolding may_go
  may-go-free v e = rw (eq-eqb _ _ e)

  pub may-go-own : (v : ℕ) → vertex_holder_at c v ≡ n + 1 → all (own_side n c) (sides_at c v) ≡ may_go n c v
  unfolding may_go own_vertex
  may-go-own v e = rw (e, ne_eqb (n + 1) 0 (λ z. omega arith), eq-eqb (n + 1) (n + 1) refl)

  pub may-go-other : (v : ℕ) → vertex_holder_at c v ≢ 0 → vertex_holder_at c v ≢ n + 1 → false ≡ may_go n c v
  unfolding may_go own_vertex
  may-go-other v e f = rw (ne_eqb _ _ e, ne_eqb _ _ f)

  pub side-goes : (s : ℕ) → vertex_left c s ≡ true → may_go n c (end_at c s) ≡ side_may_go n c s
  unfolding side_may_go vertex_left
  side-goes s e = rw e

  pub side-stays : (s : ℕ) → vertex_left c s ≡ false → true ≡ side_may_go n c s
  unfolding side_may_go vertex_left
  side-stays s e = rw e
