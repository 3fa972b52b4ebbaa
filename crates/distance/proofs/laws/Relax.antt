-- Relaxation: every entry below `unreachable` is the length of a walk, and in the end no side makes one shorter.
use Rattle.std.specs.Prelude.{◌≡◌, refl, ◌≢◌, List, [], ◌∷◌, leb, length, get_or, set, replicate}
use Rattle.std.proofs.Common.{◌∙◌, leb→le, get_or-set_other}
use Prim.Native.Nat.{ℕ, zero, suc, ◌+◌, ◌≤◌, ◌<◌, min}
use native.Mathlib.Omega.{arith}
use Rattle.std.proofs.Math.Decide.{dec_le, ℕ_discrete}
use Rattle.std.proofs.Math.Dec.{nleb→lt}
use Rattle.std.proofs.Math.ListN.{length-set, length-replicate}
use Rattle.std.proofs.lemmas.List.{set-get_or}
use Rattle.std.proofs.Math.Seq.{get_or-set_same}
use Rattle.distance.specs.Graph.{WeightedGraph, WellFormed, sides, near, across, Walk, trivial, step}
use Rattle.distance.specs.Distance.{unreachable, distance_at, length_through, start_distances, relax_side, relax_sides, sum_of, relax_until_stable, distances_from, Relaxed, Stable}
use Rattle.distance.proofs.laws.Choice.{choice-by}
use Rattle.distance.proofs.laws.Side.{across-placed}

-- ---- one side

-- what the sum becomes where one entry is set
pub sum-set : (d : List ℕ) (v x : ℕ) → v < length d → sum_of (set d v x) + distance_at d v ≡ sum_of d + x
sum-set [] v x h = omega arith
sum-set (y ∷ d) zero x h = omega arith
sum-set (y ∷ d) (suc v) x h = omega (arith, sum-set d v x (omega arith))

-- the entry of u after side s: as it was, or u is across and is now nearer through s
data Relaxing (g : WeightedGraph) (s : ℕ) (d : List ℕ) (u : ℕ) : Type 0 where
  kept : distance_at (relax_side g s d) u ≡ distance_at d u → Relaxing g s d u
  nearer : u ≡ across g s → distance_at (relax_side g s d) u ≡ length_through g s d → length_through g s d < distance_at d u → Relaxing g s d u

module _ (g : WeightedGraph) (s : ℕ) (d : List ℕ) (h : across g s < length d) where
  -- a side never raises it
  pub relax-sum : sum_of (relax_side g s d) ≤ sum_of d
  unfolding relax_side
  relax-sum = omega (arith, sum-set d (across g s) (min (distance_at d (across g s)) (length_through g s d)) h)

  -- if the sum stays, nothing changes
  relax-still : sum_of d ≤ sum_of (relax_side g s d) → (relax_side g s d ≡ d) × (distance_at d (across g s) ≤ length_through g s d)
  unfolding relax_side
  relax-still k =
      let e = sum-set d (across g s) (min (distance_at d (across g s)) (length_through g s d)) h in
      let m : min (distance_at d (across g s)) (length_through g s d) ≡ distance_at d (across g s) = omega arith in
      (rw (m, set-get_or), omega arith)

  relaxing : (u : ℕ) → Relaxing g s d u
  unfolding relax_side
  relaxing u = go (ℕ_discrete u (across g s)) (dec_le (distance_at d (across g s)) (length_through g s d))
    where
      go : Dec (u ≡ across g s) → Dec (distance_at d (across g s) ≤ length_through g s d) → Relaxing g s d u
      go (no n) _ = kept (get_or-set_other d (across g s) u _ unreachable n)
      go (yes e) (yes k) = kept (rw (e, get_or-set_same) (omega arith))
      go (yes e) (no k) = nearer e (rw (e, get_or-set_same) (omega arith)) (rw e (omega arith))

-- ---- all sides, again and again

-- no way through one of the first k sides is shorter
abbrev StableBelow : WeightedGraph → ℕ → List ℕ → Type 0
StableBelow g k d = (s : ℕ) → s < k → distance_at d (across g s) ≤ length_through g s d

module _ (g : WeightedGraph) (P : List ℕ → Type 0) (each : (s : ℕ) (d : List ℕ) → s < sides g → P d → P (relax_side g s d)) where
  -- what each side keeps, all of them keep
  sides-keep : (k : ℕ) (d : List ℕ) → k ≤ sides g → P d → P (relax_sides g k d)
  unfolding relax_sides
  sides-keep zero d h p = p
  sides-keep (suc k) d h p = each k (relax_sides g k d) h (sides-keep k d (omega arith) p)

  rounds-keep : (f : ℕ) (d : List ℕ) → P d → P (relax_until_stable g f d)
  unfolding relax_until_stable
  rounds-keep zero d p = p
  rounds-keep (suc f) d p =
      let r = relax_sides g (sides g) d in
      choice-by (leb (sum_of d) (sum_of r)) P d (relax_until_stable g f r) (λ _. p) (λ _. rounds-keep f r (sides-keep (sides g) d (omega arith) p))

module _ (g : WeightedGraph) (ok : WellFormed g) where
  relax-sized : (s : ℕ) (d : List ℕ) → s < sides g → length d ≡ g.size → length (relax_side g s d) ≡ g.size
  unfolding relax_side
  relax-sized s d h e = simp length-set e

  sides-sized : (k : ℕ) (d : List ℕ) → k ≤ sides g → length d ≡ g.size → length (relax_sides g k d) ≡ g.size
  sides-sized = sides-keep g (λ d. length d ≡ g.size) relax-sized

  across-sized : (k : ℕ) (d : List ℕ) → k < sides g → length d ≡ g.size → across g k < length (relax_sides g k d)
  across-sized k d h e = omega (arith, across-placed g ok k h, sides-sized k d (omega arith) e)

  sides-sum : (k : ℕ) (d : List ℕ) → k ≤ sides g → length d ≡ g.size → sum_of (relax_sides g k d) ≤ sum_of d
  unfolding relax_sides
  sides-sum zero d h e = omega arith
  sides-sum (suc k) d h e = omega (arith, sides-sum k d (omega arith) e, relax-sum g k (relax_sides g k d) (across-sized k d h e))

  -- if the sum stays, no side had anything to change
  sides-still : (k : ℕ) (d : List ℕ) → k ≤ sides g → length d ≡ g.size → sum_of d ≤ sum_of (relax_sides g k d) → (relax_sides g k d ≡ d) × StableBelow g k d
  unfolding relax_sides
  sides-still zero d h e l = (refl, λ s p. omega arith)
  sides-still (suc k) d h e l =
      let c = across-sized k d h e in
      let rest = sides-still k d (omega arith) e (omega (arith, relax-sum g k (relax_sides g k d) c)) in
      let newest = relax-still g k (relax_sides g k d) c (omega (arith, sides-sum k d (omega arith) e)) in
      (newest.0 ∙ rest.0, λ s p. go rest.1 (rw rest.0 at newest.1) s p (ℕ_discrete s k))
    where
      go : StableBelow g k d → distance_at d (across g k) ≤ length_through g k d → (s : ℕ) → s < suc k → Dec (s ≡ k)
          → distance_at d (across g s) ≤ length_through g s d
      go rest newest s p (yes q) = rw q newest
      go rest newest s p (no q) = rest s (omega arith)

  -- with as many rounds as the sum, none is called for at the end
  rounds-stable : (f : ℕ) (d : List ℕ) → length d ≡ g.size → sum_of d ≤ f → Stable g (relax_until_stable g f d)
  unfolding relax_until_stable
  rounds-stable zero d e l = (sides-still (sides g) d (omega arith) e (omega arith)).1
  rounds-stable (suc f) d e l =
      let r = relax_sides g (sides g) d in
      choice-by (leb (sum_of d) (sum_of r)) (Stable g) d (relax_until_stable g f r)
      (λ t. (sides-still (sides g) d (omega arith) e (leb→le (sum_of d) (sum_of r) t)).1)
      (λ t. rounds-stable f r (sides-sized (sides g) d (omega arith) e) (omega (arith, nleb→lt (sum_of d) (sum_of r) t)))

-- ---- entries are lengths of walks

pub get_d-replicate-default : (n x u : ℕ) → get_or (replicate n x) u x ≡ x
get_d-replicate-default zero x u = refl
get_d-replicate-default (suc n) x zero = refl
get_d-replicate-default (suc n) x (suc u) = get_d-replicate-default n x u

module _ (g : WeightedGraph) (ok : WellFormed g) (a : ℕ) where
  relax-relaxed : (s : ℕ) (d : List ℕ) → s < sides g → Relaxed g a d → Relaxed g a (relax_side g s d)
  relax-relaxed s d h q = record {
    sized = relax-sized g ok s d h q.sized;
    own = go-own (case a);
    capped = λ u. go-capped u (case u);
    walked = λ u l. go-walked u l (case u);
  }
    where
      case : (u : ℕ) → Relaxing g s d u
      case = relaxing g s d (omega (arith, across-placed g ok s h, q.sized))

      go-own : Relaxing g s d a → distance_at (relax_side g s d) a ≡ 0
      go-own (kept e) = omega (arith, q.own)
      go-own (nearer i e l) = omega (arith, q.own)

      go-capped : (u : ℕ) → Relaxing g s d u → distance_at (relax_side g s d) u ≤ unreachable
      go-capped u (kept e) = omega (arith, q.capped u)
      go-capped u (nearer i e l) = omega (arith, q.capped u)

      go-walked : (u : ℕ) → distance_at (relax_side g s d) u < unreachable → Relaxing g s d u → Walk g a u (distance_at (relax_side g s d) u)
      go-walked u r (kept e) = rw e (q.walked u (omega arith))
      go-walked u r (nearer i e l) = rw (e, i) (step s h (q.walked (near g s) (omega arith)))

  start-own : a < g.size → distance_at (start_distances g a) a ≡ 0
  unfolding start_distances
  start-own h = get_or-set_same (replicate g.size unreachable) a 0 unreachable (simp length-replicate h)

  start-other : (u : ℕ) → u ≢ a → distance_at (start_distances g a) u ≡ unreachable
  unfolding start_distances
  start-other u n = rw (get_or-set_other (replicate g.size unreachable) a u 0 unreachable n, get_d-replicate-default)

  start-relaxed : a < g.size → Relaxed g a (start_distances g a)
  unfolding start_distances
  start-relaxed h = record {
    sized = simp (length-set, length-replicate);
    own = start-own h;
    capped = λ u. (go u (ℕ_discrete u a)).0;
    walked = λ u. (go u (ℕ_discrete u a)).1;
  }
    where
      go : (u : ℕ) → Dec (u ≡ a)
          → (distance_at (start_distances g a) u ≤ unreachable)
          × (distance_at (start_distances g a) u < unreachable → Walk g a u (distance_at (start_distances g a) u))
      go u (yes e) = rw (e, start-own h) (omega arith, λ _. trivial)
      go u (no e) = (omega (arith, start-other u e), λ l. absurd (omega (arith, start-other u e)))

  -- ---- the list of distances

  pub distances-relaxed : a < g.size → Relaxed g a (distances_from g a)
  unfolding distances_from
  distances-relaxed h = rounds-keep g (Relaxed g a) relax-relaxed (sum_of (start_distances g a)) (start_distances g a) (start-relaxed h)

  pub distances-stable : a < g.size → Stable g (distances_from g a)
  unfolding distances_from
  distances-stable h = rounds-stable g ok (sum_of (start_distances g a)) (start_distances g a) (start-relaxed h).sized (omega arith)
