-- The table tells feasible dual variables apart, where weights are positive and each vertex reaches a virtual one.
use Rattle.std.specs.Prelude.{◌≡◌, refl, ◌≢◌, ◌↔◌, List, ℕ, ◌-◌, ◌≤◌, ◌<◌, min, get_or}
use Rattle.std.proofs.Common.{sym, ap, ◌∙◌, arith, ext_get_or}
use Rattle.std.proofs.Math.Logic.{by_cases}
use Rattle.std.proofs.Math.Option.{Option, none, some}
use Rattle.std.proofs.Math.Decide.{dec_le, dec_lt, ℕ_discrete}
use Rattle.distance.specs.Graph.{WeightedGraph, WellFormed, Positive, sides, near, across, weight}
use Rattle.distance.specs.Distance.{dist}
use Rattle.distance.specs.Nearest.{VirtualInReach}
use Rattle.distance.specs.Table.{dual, Covers, owner, growth, table_from_distances}
use Rattle.distance.specs.Feasible.{Feasible}
use Rattle.distance.proofs.laws.Distance.{unreachable-is, dist-self, dist-zero, dist-predecessor, walk-reached}
use Rattle.distance.proofs.laws.Leaving.{Leaving, dist-leaving}
use Rattle.distance.proofs.laws.Table.{owner-some, share-outward, share-inward, share-positive, growth-none, at-table_from_distances}
use Rattle.distance.proofs.laws.Feasible.{dual-placed, separate, growth-is}

-- y and z give each side the same growth
abbrev Agree : WeightedGraph → List ℕ → List ℕ → Type 0
Agree g y z = (s : ℕ) → s < sides g → growth g y s ≡ growth g z s

module _ (g : WeightedGraph) (ok : WellFormed g) (pos : Positive g) (y z : List ℕ) (fy : Feasible g y) (fz : Feasible g z) (agree : Agree g y z) where
  -- What b covers in y has no dual variable in z: the side toward b has growth 0 in y.
  not_covered : (a b : ℕ) → a ≢ b → Covers g y b a → 0 < dual z a → ⊥
  not_covered a b q c p =
      let in-a = dual-placed g ok z fz a p in
      let in_b = dual-placed g ok y fy b (omega arith) in
      let back = dist-predecessor g ok b in_b a q (omega (arith, fy.bounded b, unreachable-is)) in
      let none-there : growth g y back.side ≡ 0 =
      growth-is g ok y fy b back.side back.inside (rw back.starts c)
      ∙ share-inward _ _ _ _ (rw back.starts back.adds) in
      let zero-there : dist g a (near g back.side) ≡ 0 = rw back.starts (dist-self g ok a in-a) in
      let some-there = growth-is g ok z fz a back.side back.inside (omega arith) in
      let w = pos back.side back.inside in
      omega (
        arith,
        agree back.side back.inside,
        share-positive (dual z a) (dist g a (near g back.side)) (dist g a (across g back.side)) (weight g back.side) (omega arith) w (omega arith),
      )

  -- No dual variable is smaller in y: the side outward from where it ends in y has more growth in z.
  module _ (a t : ℕ) (in-a : a < g.size) (l : dual y a < dual z a) (c : Leaving g a t (λ u. dist g a u ≤ dual y a)) where
    more : growth g z c.side ≡ min (dual z a - dist g a (near g c.side)) (weight g c.side)
    more = growth-is g ok z fz a c.side c.inside (omega (arith, c.held)) ∙ share-outward _ _ _ _ c.adds

    covered : Covers g y a (near g c.side) → ⊥
    covered k =
        let less = growth-is g ok y fy a c.side c.inside k ∙ share-outward _ _ _ _ c.adds in
        omega (arith, more, agree c.side c.inside, c.free, c.adds)

    uncovered : dist g a (near g c.side) ≡ dual y a → (o : Option ℕ) → owner g y (near g c.side) ≡ o → ⊥
    uncovered e none o = omega (arith, growth-none g y c.side o, more, agree c.side c.inside, c.free, c.adds)
    uncovered e (some b) o =
        let r = (owner-some g y (near g c.side) b o).1 in
        let q : a ≢ b = λ x. omega (arith, rw (← x) at r) in
        by_cases (ℕ_discrete (dual y a) 0)
        (λ n. not_covered a b q (rw (dist-zero g ok a in-a pos (near g c.side) (omega arith)) at r) (omega arith))
        (λ n. omega (arith, separate g ok y fy a b (near g c.side) q (omega arith) (omega arith) (ok.placed c.side c.inside)))

    not-less-at : ⊥
    not-less-at =
        by_cases (dec_lt (dist g a (near g c.side)) (dual y a)) covered
        (λ k. uncovered (omega (arith, c.held)) (owner g y (near g c.side)) refl)

  not-less : VirtualInReach g → (a : ℕ) → ¬ (dual y a < dual z a)
  not-less reach a l =
      let in-a = dual-placed g ok z fz a (omega arith) in
      let v = reach a in-a in
      not-less-at a v.vertex in-a l
      (dist-leaving g ok a in-a (λ u. dist g a u ≤ dual y a) (λ u. dec_le (dist g a u) (dual y a)) (omega (arith, dist-self g ok a in-a)) v.vertex
      (omega (arith, fz.virtuals a v.vertex in-a v.placed v.virtual)) (walk-reached g ok a in-a v.walk))

-- Feasible dual variables with the same table are the same.
pub table_from_distances-injective : (g : WeightedGraph) → WellFormed g → Positive g → VirtualInReach g → (y z : List ℕ) → Feasible g y → Feasible g z
    → table_from_distances g y ≡ table_from_distances g z → y ≡ z
table_from_distances-injective g ok pos reach y z fy fz e =
    ext_get_or 0 y z (omega (arith, fy.sized, fz.sized)) (λ a h.
    let less : ¬ (dual y a < dual z a) = not-less g ok pos y z fy fz agree reach a in
    let more : ¬ (dual z a < dual y a) = not-less g ok pos z y fz fy (λ s k. sym (agree s k)) reach a in
    omega arith)
  where
    agree : Agree g y z
    agree s h = sym (at-table_from_distances g y s h) ∙ ap (λ (t : List ℕ). get_or t s 0) e ∙ at-table_from_distances g z s h

-- so tables are equal exactly where the dual variables are
pub table_from_distances-equal : (g : WeightedGraph) → WellFormed g → Positive g → VirtualInReach g → (y z : List ℕ) → Feasible g y → Feasible g z
    → (table_from_distances g y ≡ table_from_distances g z) ↔ (y ≡ z)
table_from_distances-equal g ok pos reach y z fy fz = (table_from_distances-injective g ok pos reach y z fy fz, λ e. ap (table_from_distances g) e)
