-- The two growths of an edge.
use Rattle.std.specs.Prelude.{◌≡◌, refl, ◌≢◌, ◌⊎◌, List, ℕ, ◌+◌, ◌-◌, ◌≤◌, ◌<◌}
use Rattle.std.proofs.Common.{inl, inr, arith}
use Rattle.std.proofs.Math.Option.{Option, none, some}
use Rattle.distance.specs.Graph.{WeightedGraph, WellFormed, sides, other_side, near, across, weight}
use Rattle.distance.specs.Distance.{dist}
use Rattle.distance.specs.Table.{dual, Covers, owner, share, growth}
use Rattle.distance.specs.Feasible.{Feasible}
use Rattle.distance.proofs.laws.Side.{opposite-in, near-opposite, across-opposite, weight-opposite, across-placed}
use Rattle.distance.proofs.laws.Distance.{dist-edge, dist-sym, dist-triangle, dist-side}
use Rattle.distance.proofs.laws.Table.{owner-some, share-by, growth-none}
use Rattle.distance.proofs.laws.Feasible.{dual-placed, pair_fits, growth-is}

module _ (y n f w : ℕ) where
  -- a side has no more growth than what is left of the dual variable
  share-le : share y n f w ≤ y - n
  share-le = share-by y n f w (λ r. r ≤ y - n) (λ _. omega arith) (λ _ _. omega arith) (λ _ _. omega arith)

  -- nor than the weight, where the other end is not covered
  share-fits : y ≤ f → f ≤ n + w → share y n f w ≤ w
  share-fits h l = share-by y n f w (λ r. r ≤ w) (λ _. omega arith) (λ _ _. omega arith) (λ _ _. omega arith)

-- side s, from u to v, has an owner: the growth is within what the owner has left, and within the edge where the owner does not cover v
pub record Owned (g : WeightedGraph) (y : List ℕ) (s u v : ℕ) : Type 0 where
  pub by : ℕ
  pub covers : Covers g y by u
  pub left : growth g y s ≤ dual y by - dist g by u
  pub fits : dual y by ≤ dist g by v → growth g y s ≤ weight g s

module _ (g : WeightedGraph) (ok : WellFormed g) (y : List ℕ) (fe : Feasible g y) where
  pub growth-cases : (s : ℕ) → s < sides g → (growth g y s ≡ 0) ⊎ Owned g y s (near g s) (across g s)
  growth-cases s h = go (owner g y (near g s)) refl
    where
      go : (o : Option ℕ) → owner g y (near g s) ≡ o → (growth g y s ≡ 0) ⊎ Owned g y s (near g s) (across g s)
      go none o = inl (growth-none g y s o)
      go (some a) o =
          let c = owner-some g y (near g s) a o in
          let e = growth-is g ok y fe a s h c.1 in
          inr (record { by = a; covers = c.1; left = rw e (share-le _ _ _ _); fits = λ l. rw e (share-fits _ _ _ _ l (dist-edge g ok a c.0 s h)) })

  -- no defect covers both ends: the two growths sum to at most the weight
  pub edge-fits : (s : ℕ) → s < sides g → ((a : ℕ) → Covers g y a (near g s) → ¬ Covers g y a (across g s))
      → growth g y s + growth g y (other_side s) ≤ weight g s
  edge-fits s h apart =
      go (growth-cases s h) (rw (near-opposite, across-opposite) at (growth-cases (other_side s) (opposite-in g ok s h)))
    where
      go : (growth g y s ≡ 0) ⊎ Owned g y s (near g s) (across g s) → (growth g y (other_side s) ≡ 0) ⊎ Owned g y (other_side s) (across g s) (near g s)
          → growth g y s + growth g y (other_side s) ≤ weight g s
      go (inl p) (inl q) = omega arith
      go (inl p) (inr b) =
          let n : ¬ Covers g y b.by (near g s) = λ k. apart b.by k b.covers in
          omega (arith, b.fits (omega arith), weight-opposite g s)
      go (inr a) (inl q) = omega (arith, a.fits (omega (arith, apart a.by a.covers)))
      go (inr a) (inr b) =
          let q : a.by ≢ b.by = λ x. apart a.by a.covers (rw (← x) at b.covers) in
          let p = dual-placed g ok y fe b.by (omega (arith, b.covers)) in
          let u = ok.placed s h in
          let v = across-placed g ok s h in
          omega (
            arith,
            pair_fits g ok y fe a.by b.by q (omega (arith, a.covers)) (omega (arith, b.covers)),
            a.covers,
            b.covers,
            a.left,
            b.left,
            dist-triangle g ok a.by (near g s) b.by (dual-placed g ok y fe a.by (omega (arith, a.covers))) u,
            dist-triangle g ok (near g s) (across g s) b.by u v,
            dist-side g ok s h,
            dist-sym g ok (across g s) b.by v p,
          )
