-- Feasible dual variables: at most one defect covers a vertex.
use Rattle.std.specs.Prelude.{◌≡◌, ◌≢◌, List, ℕ, ◌+◌, ◌≤◌, ◌<◌, set, replicate}
use Rattle.std.proofs.Common.{sym, ◌∙◌, arith, length-set, get_or-set_same, get_or-set_other}
use Rattle.std.proofs.Math.Logic.{by_cases}
use Rattle.std.proofs.Math.Option.{some}
use Rattle.std.proofs.Math.Decide.{dec_lt, ℕ_discrete}
use Rattle.std.proofs.lemmas.List.{length-replicate}
use Rattle.std.proofs.Math.ListN.{get_or-eq_default}
use Rattle.distance.specs.Graph.{WeightedGraph, WellFormed, sides, near, across, weight}
use Rattle.distance.specs.Distance.{unreachable, dist}
use Rattle.distance.specs.Table.{dual, Covers, owner, share, growth}
use Rattle.distance.specs.Nearest.{nearest_virtual}
use Rattle.distance.specs.Feasible.{Feasible}
use Rattle.distance.proofs.laws.Relax.{get_d-replicate-default}
use Rattle.distance.proofs.laws.Nearest.{nearest-least}
use Rattle.distance.proofs.laws.Distance.{unreachable-is, dist-sym, dist-triangle}
use Rattle.distance.proofs.laws.Table.{owner-only, growth-some}

module _ (g : WeightedGraph) (ok : WellFormed g) (y : List ℕ) (fe : Feasible g y) where
  -- only a vertex has a dual variable above 0
  pub dual-placed : (a : ℕ) → 0 < dual y a → a < g.size
  dual-placed a h =
      by_cases (dec_lt a g.size) (λ l. l) (λ l. absurd (omega (arith, get_or-eq_default y 0 {n = a} (omega (arith, fe.sized)))))

  -- two dual variables above 0 sum to at most the distance, also where no walk leads from a to b, since `unreachable` is above any two dual variables
  pub pair_fits : (a b : ℕ) → a ≢ b → 0 < dual y a → 0 < dual y b → dual y a + dual y b ≤ dist g a b
  pair_fits a b q p r =
      by_cases (dec_lt (dist g a b) unreachable) (fe.pairs a b (dual-placed a p) (dual-placed b r) q p r)
      (λ l. omega (arith, fe.bounded a, fe.bounded b, unreachable-is))

  -- by way of u too, a and b are at least as far apart as their dual variables sum to
  pub separate : (a b u : ℕ) → a ≢ b → 0 < dual y a → 0 < dual y b → u < g.size → dual y a + dual y b ≤ dist g a u + dist g b u
  separate a b u q p r h =
      omega (arith, dist-triangle g ok a u b (dual-placed a p) h, dist-sym g ok u b h (dual-placed b r), pair_fits a b q p r)

  -- at most one defect covers a vertex
  pub one_covers : (a b u : ℕ) → u < g.size → Covers g y a u → Covers g y b u → a ≡ b
  one_covers a b u h p r = by_cases (ℕ_discrete a b) (λ e. e) (λ q. absurd (omega (arith, separate a b u q (omega arith) (omega arith) h)))

  pub owner-is : (a u : ℕ) → u < g.size → Covers g y a u → owner g y u ≡ some a
  owner-is a u h c = owner-only g y u a (dual-placed a (omega arith)) c (λ b _ d. one_covers b a u h d c)

  -- the growth of a side at a vertex that a covers
  pub growth-is : (a s : ℕ) → s < sides g → Covers g y a (near g s)
      → growth g y s ≡ share (dual y a) (dist g a (near g s)) (dist g a (across g s)) (weight g s)
  growth-is a s h c = growth-some g y s a (owner-is a (near g s) (ok.placed s h) c)

  -- Neither of a and b covers the other: their dual variables sum to at most their distance, also where one of them is 0.
  pub pair-clear : (a b : ℕ) → a < g.size → b < g.size → a ≢ b → dual y b ≤ dist g b a → dual y a ≤ dist g a b → dual y a + dual y b ≤ dist g a b
  pair-clear a b h k q p r =
      by_cases (ℕ_discrete (dual y a) 0) (λ e. omega (arith, dist-sym g ok a b h k))
      (λ e. by_cases (ℕ_discrete (dual y b) 0) (λ f. omega arith) (λ f. pair_fits a b q (omega arith) (omega arith)))

-- ---- one defect

-- one dual variable above 0, no farther than the nearest virtual vertex
pub single-feasible : (g : WeightedGraph) (x k : ℕ) → x < g.size → k ≤ 1_000_000_000 → k ≤ nearest_virtual g x → Feasible g (set (replicate g.size 0) x k)
single-feasible g x k h small within = record {
  sized = simp (length-set, length-replicate);
  bounded = λ a. by_cases (ℕ_discrete a x) (λ e. rw e (omega (arith, own))) (λ q. omega (arith, other a q));
  pairs = λ a b _ _ q p r _.
      by_cases (ℕ_discrete a x)
      (λ e. by_cases (ℕ_discrete b x) (λ f. absurd (q (e ∙ sym f))) (λ f. absurd (omega (arith, other b f))))
      (λ e. absurd (omega (arith, other a e)));
  virtuals = λ a v _ l f. by_cases (ℕ_discrete a x) (λ e. rw e (omega (arith, own, nearest-least g x v l f))) (λ q. omega (arith, other a q));
}
  where
    own : dual (set (replicate g.size 0) x k) x ≡ k
    own = get_or-set_same (replicate g.size 0) x k 0 (simp length-replicate h)

    other : (a : ℕ) → a ≢ x → dual (set (replicate g.size 0) x k) a ≡ 0
    other a q = rw (get_or-set_other (replicate g.size 0) x a k 0 q, get_d-replicate-default)
