-- An entry of an overgrown stack as a word, 1,024 * amount + vertex.
use Rattle.std.specs.Prelude.{ℕ, ◌/◌, ◌%◌, ◌≤◌, ◌<◌, ◌≡◌, Bool, ◌&&◌, leb, ltb}
use Rattle.std.proofs.Common.{arith, sym, ◌∙◌}
use Rattle.std.proofs.Math.Decide.{dec_le}
use Rattle.std.proofs.Math.Path.{refl}
use Rattle.std.proofs.Math.Bool.{true, false}
use borrow.Author.Tests.{le-leb, lt-leb, leb-true, ltb-true}
use Rattle.graph.specs.Open.{dual_limit}
use Rattle.graph.specs.State.{State, vertex_count}
use Rattle.graph.specs.Sound.{over_sound}
use Rattle.graph.specs.Layout.{overgrown_from}
use Rattle.graph.specs.laws.State.{and_left, and_right}
use Rattle.graph.specs.laws.Scan.{and-false}

-- the greatest word has the greatest amount
amount-leb : (x : ℕ) → leb (x / 1024) dual_limit ≡ leb x 1024000001023
amount-leb x =
    elim (dec_le x 1024000001023) [
      | yes h ↦ rw (le-leb x 1024000001023 h) (le-leb (x / 1024) dual_limit (omega arith))
      | no h ↦ rw (lt-leb x 1024000001023 (omega arith)) (lt-leb (x / 1024) dual_limit (omega arith))
    ]

module _ (c : State) (x : ℕ) where
  pub entry-small : leb x 1024000001023 ≡ true → ltb (x % 1024) (vertex_count c) ≡ over_sound c (overgrown_from x)
  unfolding over_sound overgrown_from
  entry-small e = rw (amount-leb x, e) (last (ltb (x % 1024) (vertex_count c)))
    where
      last : (t : Bool) → t ≡ t && true
      last true = refl
      last false = refl

  pub entry-large : leb x 1024000001023 ≡ false → false ≡ over_sound c (overgrown_from x)
  unfolding over_sound overgrown_from
  entry-large e = rw (amount-leb x, e) (sym (and-false (ltb (x % 1024) (vertex_count c))))

  -- a sound entry is a small word
  pub entry-word : over_sound c (overgrown_from x) ≡ true → x ≤ 1024000001023
  unfolding over_sound overgrown_from
  entry-word e = leb-true x 1024000001023 (sym (amount-leb x) ∙ and_right (ltb (x % 1024) (vertex_count c)) (leb (x / 1024) dual_limit) e)

  pub entry-vertex : over_sound c (overgrown_from x) ≡ true → (x % 1024 ≡ (overgrown_from x).vertex) × (x % 1024 < vertex_count c)
  unfolding over_sound overgrown_from
  entry-vertex e = (refl, ltb-true (x % 1024) (vertex_count c) (and_left (ltb (x % 1024) (vertex_count c)) (leb (x / 1024) dual_limit) e))
