-- Distances: each is the least length of a walk, and none below `unreachable` comes near it.
use Rattle.std.specs.Prelude.{◌≡◌, refl, ◌≢◌, ◌↔◌, ℕ, zero, suc, ◌+◌, ◌-◌, ◌*◌, ◌≤◌, ◌<◌, min}
use Rattle.std.proofs.Math.Logic.{by_cases}
use Rattle.std.proofs.Common.{arith}
use Rattle.std.proofs.Math.Decide.{dec_lt, ℕ_discrete}
use Rattle.distance.specs.Graph.{WeightedGraph, WellFormed, Positive, sides, other_side, near, across, weight, Walk, trivial, step, ShortestLength}
use Rattle.distance.specs.Distance.{unreachable, dist, Predecessor}
use Rattle.distance.proofs.laws.Side.{opposite-in, near-opposite, across-opposite, weight-opposite}
use Rattle.distance.proofs.laws.Walk.{join-walks, cross-side, reverse-walk, walk-placed}
use Rattle.distance.proofs.laws.Relax.{distances-relaxed, distances-stable}

pub unreachable-is : unreachable ≡ 2_000_000_000_000
unfolding unreachable
unreachable-is = refl

module _ (g : WeightedGraph) (ok : WellFormed g) (a : ℕ) (in-a : a < g.size) where
  -- the distance of a from itself is 0
  pub dist-self : dist g a a ≡ 0
  unfolding dist
  dist-self = (distances-relaxed g ok a in-a).own

  pub dist-capped : (u : ℕ) → dist g a u ≤ unreachable
  unfolding dist
  dist-capped u = (distances-relaxed g ok a in-a).capped u

  -- an edge leads no farther than its weight
  pub dist-edge : (s : ℕ) → s < sides g → dist g a (across g s) ≤ dist g a (near g s) + weight g s
  unfolding dist
  dist-edge s h = distances-stable g ok a in-a s h

  pub dist-edge-back : (s : ℕ) → s < sides g → dist g a (near g s) ≤ dist g a (across g s) + weight g s
  dist-edge-back s h = rw (near-opposite, across-opposite, weight-opposite) at (dist-edge (other_side s) (opposite-in g ok s h))

  -- a distance below `unreachable` is the length of a walk
  pub dist-walk : (u : ℕ) → dist g a u < unreachable → Walk g a u (dist g a u)
  unfolding dist
  dist-walk u l = (distances-relaxed g ok a in-a).walked u l

  -- of a shortest one
  pub dist-least : {u n : ℕ} → Walk g a u n → dist g a u ≤ n
  dist-least trivial = omega (arith, dist-self)
  dist-least (step s h p) = omega (arith, dist-edge s h, dist-least p)

  -- without its last step a shortest walk is a shortest one
  pub last_step : {n : ℕ} (s : ℕ) → s < sides g → Walk g a (near g s) n → n + weight g s ≡ dist g a (across g s) → n ≡ dist g a (near g s)
  last_step s h p e = omega (arith, dist-edge s h, dist-least p)

  predecessor : {u n : ℕ} → Walk g a u n → n ≡ dist g a u → n < unreachable → u ≢ a → Predecessor g a u
  predecessor trivial e l q = absurd (q refl)
  predecessor (step s h p) e l q =
      let m = last_step s h p e in
      record {
        side = other_side s;
        inside = opposite-in g ok s h;
        starts = near-opposite g s;
        reached = rw across-opposite (omega arith);
        adds = rw (across-opposite, weight-opposite) (omega arith);
      }

  -- every vertex in reach other than a has a predecessor
  pub dist-predecessor : (u : ℕ) → u ≢ a → dist g a u < unreachable → Predecessor g a u
  dist-predecessor u q l = predecessor (dist-walk u l) refl l q

  -- with positive weights only a itself is at distance 0
  pub dist-zero : Positive g → (u : ℕ) → dist g a u ≡ 0 → u ≡ a
  dist-zero pos u e = own (dist-walk u (omega (arith, unreachable-is))) e
    where
      own : {u n : ℕ} → Walk g a u n → n ≡ 0 → u ≡ a
      own trivial e = refl
      own (step s h p) e = absurd (omega (arith, pos s h))

  pub dist-zero-iff : Positive g → (u : ℕ) → (dist g a u ≡ 0) ↔ (u ≡ a)
  dist-zero-iff pos u = (dist-zero pos u, λ e. rw e dist-self)

-- ---- a vertex in reach is nearer than `unreachable`

-- how many of the first n values of D are below x
count_below : (ℕ → ℕ) → ℕ → ℕ → ℕ
count_below D zero x = 0
count_below D (suc n) x = count_below D n x + min 1 (x - D n)

count-mono : (D : ℕ → ℕ) (n x y : ℕ) → x ≤ y → count_below D n x ≤ count_below D n y
unfolding count_below
count-mono D zero x y h = omega arith
count-mono D (suc n) x y h = omega (arith, count-mono D n x y h)

count-strict : (D : ℕ → ℕ) (n i x y : ℕ) → i < n → x ≤ D i → D i < y → count_below D n x < count_below D n y
unfolding count_below
count-strict D zero i x y h p q = omega arith
count-strict D (suc n) i x y h p q =
    by_cases (ℕ_discrete i n)
    (λ e. omega (arith, count-mono D n x y (omega arith), rw e at p, rw e at q))
    (λ e. omega (arith, count-strict D n i x y (omega arith) p q))

count-all : (D : ℕ → ℕ) (n x : ℕ) → count_below D n x ≤ n
unfolding count_below
count-all D zero x = omega arith
count-all D (suc n) x = omega (arith, count-all D n x)

module _ (g : WeightedGraph) (ok : WellFormed g) (a : ℕ) (in-a : a < g.size) where
  -- A step of a shortest walk that leads farther leaves one more vertex nearer, so the distance is at most 1,000,000 for each nearer vertex.
  dist-by-count : {u n : ℕ} → Walk g a u n → n ≡ dist g a u → dist g a u ≤ count_below (dist g a) g.size (dist g a u) * 1_000_000
  dist-by-count trivial e = omega (arith, dist-self g ok a in-a)
  dist-by-count (step {n} s h p) e =
      let m = last_step g ok a in-a s h p e in
      go m (dist-by-count p m) (dec_lt (dist g a (near g s)) (dist g a (across g s)))
    where
      go : n ≡ dist g a (near g s) → dist g a (near g s) ≤ count_below (dist g a) g.size (dist g a (near g s)) * 1_000_000
          → Dec (dist g a (near g s) < dist g a (across g s))
          → dist g a (across g s) ≤ count_below (dist g a) g.size (dist g a (across g s)) * 1_000_000
      go m ih (yes l) =
          let c = count-strict (dist g a) g.size (near g s) (dist g a (near g s)) (dist g a (across g s)) (ok.placed s h) (omega arith) l in
          omega (arith, ok.light s h)
      go m ih (no l) =
          let same : dist g a (near g s) ≡ dist g a (across g s) = omega arith in
          rw same at ih

  pub dist-bound : (u : ℕ) → dist g a u < unreachable → dist g a u ≤ 1_023_000_000
  dist-bound u l =
      let p = dist-walk g ok a in-a u l in
      let c = count-strict (dist g a) g.size u (dist g a u) (suc (dist g a u)) (walk-placed g ok a in-a p) (omega arith) (omega arith) in
      omega (arith, dist-by-count p refl, count-all (dist g a) g.size (suc (dist g a u)), ok.small)

  -- what a walk leads to is in reach
  pub walk-reached : {u n : ℕ} → Walk g a u n → dist g a u < unreachable
  walk-reached trivial = omega (arith, dist-self g ok a in-a, unreachable-is)
  walk-reached (step s h p) = omega (arith, dist-bound (near g s) (walk-reached p), dist-edge g ok a in-a s h, ok.light s h, unreachable-is)

  -- a vertex is unreachable exactly where no walk leads to it
  pub dist-unreachable : (u : ℕ) → (dist g a u ≡ unreachable) ↔ ((n : ℕ) → Walk g a u n → ⊥)
  dist-unreachable u = (
    λ e n p. omega (arith, walk-reached p),
    λ f. by_cases (dec_lt (dist g a u) unreachable) (λ l. absurd (f (dist g a u) (dist-walk g ok a in-a u l))) (λ l. omega (arith, dist-capped g ok a in-a u)),
  )

  -- where a walk leads, the distance is the least length of one
  pub dist-shortest : {u n : ℕ} → Walk g a u n → ShortestLength g a u (dist g a u)
  dist-shortest {u} p = record { walk = dist-walk g ok a in-a u (walk-reached p); least = λ m q. dist-least g ok a in-a q }

-- ---- symmetry and the triangle

module _ (g : WeightedGraph) (ok : WellFormed g) (a b : ℕ) (in-a : a < g.size) (in_b : b < g.size) where
  dist-back : dist g a b ≤ dist g b a
  dist-back =
      by_cases (dec_lt (dist g b a) unreachable)
      (λ l. dist-least g ok a in-a (reverse-walk ok (dist-walk g ok b in_b a l)))
      (λ l. omega (arith, dist-capped g ok a in-a b))

pub dist-sym : (g : WeightedGraph) (ok : WellFormed g) (a b : ℕ) → a < g.size → b < g.size → dist g a b ≡ dist g b a
dist-sym g ok a b in-a in_b = omega (arith, dist-back g ok a b in-a in_b, dist-back g ok b a in_b in-a)

pub dist-triangle : (g : WeightedGraph) (ok : WellFormed g) (a u b : ℕ) → a < g.size → u < g.size → dist g a b ≤ dist g a u + dist g u b
dist-triangle g ok a u b in-a in-u =
    by_cases (dec_lt (dist g a u) unreachable)
    (λ l. by_cases (dec_lt (dist g u b) unreachable)
    (λ k. dist-least g ok a in-a (join-walks (dist-walk g ok a in-a u l) (dist-walk g ok u in-u b k)))
    (λ k. omega (arith, dist-capped g ok a in-a b)))
    (λ l. omega (arith, dist-capped g ok a in-a b))

-- the ends of an edge are no farther apart than its weight
pub dist-side : (g : WeightedGraph) (ok : WellFormed g) (s : ℕ) → s < sides g → dist g (near g s) (across g s) ≤ weight g s
dist-side g ok s h = dist-least g ok (near g s) (ok.placed s h) (cross-side s h)
