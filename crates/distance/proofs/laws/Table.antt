-- The owner of a vertex, the growth of a side, and the table by its sides.
use Rattle.std.specs.Prelude.{◌≡◌, refl, ◌≢◌, Bool, not, List, [], ◌∷◌, ℕ, zero, suc, ◌+◌, ◌-◌, ◌≤◌, ◌<◌, min, T, eqb, length, get_or}
use Rattle.std.proofs.Common.{ap, ◌∙◌, leb→le, eqb→eq, length-append}
use Rattle.std.proofs.Math.Logic.{by_cases}
use Rattle.std.proofs.Math.Option.{Option, none, some}
use native.Mathlib.Omega.{arith}
use Rattle.std.proofs.Math.Decide.{ℕ_discrete}
use Rattle.std.proofs.Math.Dec.{nleb→lt}
use Rattle.std.proofs.Math.ListN.{get_or-append}
use Rattle.std.proofs.lemmas.List.{get_or_at}
use Rattle.distance.specs.Graph.{WeightedGraph, sides, near, across, weight}
use Rattle.distance.specs.Distance.{dist}
use Rattle.distance.specs.Table.{dual, Covers, exceeds, first_from, owner, share, growth, growths_below, table_from_distances}
use Rattle.distance.proofs.laws.Choice.{choice-by, not_equal}

-- ---- the owner of a vertex

-- what a search of k numbers from i answers
abbrev FirstFrom : (ℕ → Bool) → ℕ → ℕ → Option ℕ → Type 0
FirstFrom p k i none = (j : ℕ) → i ≤ j → j < i + k → T (not (p j))
FirstFrom p k i (some a) = (a < i + k) × T (p a) × ((j : ℕ) → i ≤ j → j < a → T (not (p j)))

first-from : (p : ℕ → Bool) (k i : ℕ) → FirstFrom p k i (first_from p k i)
unfolding first_from
first-from p zero i = λ j h l. absurd (omega arith)
first-from p (suc k) i =
    choice-by (p i) (FirstFrom p (suc k) i) (some i) (first_from p k (suc i))
    (λ t. (omega arith, t, λ j h l. absurd (omega arith)))
    (λ t. longer t (first_from p k (suc i)) (first-from p k (suc i)))
  where
    also : T (not (p i)) → (m : ℕ) → ((j : ℕ) → suc i ≤ j → j < m → T (not (p j))) → (j : ℕ) → i ≤ j → j < m → T (not (p j))
    also t m f j h l = by_cases (ℕ_discrete j i) (λ e. rw e t) (λ e. f j (omega arith) l)

    longer : T (not (p i)) → (r : Option ℕ) → FirstFrom p k (suc i) r → FirstFrom p (suc k) i r
    longer t none f = λ j h l. also t (suc i + k) f j h (omega arith)
    longer t (some a) f = (omega (arith, f.0), f.1, λ j h l. also t a f.2 j h l)

exceeds-true : (y d : ℕ) → T (exceeds y d) → d < y
exceeds-true zero d t = absurd t
exceeds-true (suc y) d t = omega (arith, leb→le d y t)

exceeds-false : (y d : ℕ) → T (not (exceeds y d)) → y ≤ d
exceeds-false zero d t = omega arith
exceeds-false (suc y) d t = nleb→lt d y t

module _ (g : WeightedGraph) (y : List ℕ) (u : ℕ) where
  pub owner-none : owner g y u ≡ none → (a : ℕ) → a < g.size → dual y a ≤ dist g a u
  unfolding owner
  owner-none e a h = exceeds-false _ _ (rw e at (first-from (λ a. exceeds (dual y a) (dist g a u)) g.size 0) a (omega arith) (omega arith))

  pub owner-some : (a : ℕ) → owner g y u ≡ some a → (a < g.size) × Covers g y a u
  unfolding owner
  owner-some a e = let f = rw e at (first-from (λ a. exceeds (dual y a) (dist g a u)) g.size 0) in (omega arith, exceeds-true _ _ f.1)

  -- where a alone covers u, it is the owner
  pub owner-only : (a : ℕ) → a < g.size → Covers g y a u → ((b : ℕ) → b < g.size → Covers g y b u → b ≡ a) → owner g y u ≡ some a
  owner-only a h c only = go (owner g y u) refl
    where
      go : (r : Option ℕ) → owner g y u ≡ r → owner g y u ≡ some a
      go none e = absurd (omega (arith, owner-none e a h))
      go (some b) e = let o = owner-some b e in e ∙ ap {B = Option ℕ} some (only b o.0 o.1)

-- ---- growth by cases

module _ (y n f w : ℕ) where
  pub share-by : (P : ℕ → Type 0) → (f ≡ n + w → P (min (y - n) w)) → (f ≢ n + w → n ≡ f + w → P 0) → (f ≢ n + w → n ≢ f + w → P (y - n)) → P (share y n f w)
  unfolding share
  share-by P outward inward other =
      choice-by (eqb f (n + w)) P _ _ (λ t. outward (eqb→eq _ _ t)) (λ t.
      choice-by (eqb n (f + w)) P _ _ (λ v. inward (not_equal _ _ t) (eqb→eq _ _ v)) (λ v. other (not_equal _ _ t) (not_equal _ _ v)))

  pub share-outward : f ≡ n + w → share y n f w ≡ min (y - n) w
  share-outward e = share-by (λ r. r ≡ min (y - n) w) (λ _. refl) (λ q _. absurd (q e)) (λ q _. absurd (q e))

  pub share-inward : n ≡ f + w → share y n f w ≡ 0
  share-inward e = share-by (λ r. r ≡ 0) (λ q. omega arith) (λ q _. refl) (λ _ q. absurd (q e))

  pub share-across : f ≢ n + w → n ≢ f + w → share y n f w ≡ y - n
  share-across p q = share-by (λ r. r ≡ y - n) (λ e. absurd (p e)) (λ _ e. absurd (q e)) (λ _ _. refl)

  pub share-positive : n < y → 0 < w → n ≢ f + w → 0 < share y n f w
  share-positive l k q = share-by (λ r. 0 < r) (λ e. omega arith) (λ _ e. absurd (q e)) (λ _ _. omega arith)

module _ (g : WeightedGraph) (y : List ℕ) (s : ℕ) where
  pub growth-none : owner g y (near g s) ≡ none → growth g y s ≡ 0
  unfolding growth
  growth-none e = rw e

  pub growth-some : (a : ℕ) → owner g y (near g s) ≡ some a
      → growth g y s ≡ share (dual y a) (dist g a (near g s)) (dist g a (across g s)) (weight g s)
  unfolding growth
  growth-some a e = rw e

-- a side at a vertex that no defect covers has no growth
pub growth-free : (g : WeightedGraph) (y : List ℕ) (s : ℕ) → ((a : ℕ) → a < g.size → ¬ Covers g y a (near g s)) → growth g y s ≡ 0
growth-free g y s free = go (owner g y (near g s)) refl
  where
    go : (o : Option ℕ) → owner g y (near g s) ≡ o → growth g y s ≡ 0
    go none o = growth-none g y s o
    go (some a) o = let c = owner-some g y (near g s) a o in absurd (free a c.0 c.1)

-- ---- the table by its sides

length-growths_below : (g : WeightedGraph) (y : List ℕ) (k : ℕ) → length (growths_below g y k) ≡ k
unfolding growths_below
length-growths_below g y zero = refl
length-growths_below g y (suc k) = simp length-append (omega (arith, length-growths_below g y k))

at-growths_below : (g : WeightedGraph) (y : List ℕ) (k s : ℕ) → s < k → get_or (growths_below g y k) s 0 ≡ growth g y s
unfolding growths_below
at-growths_below g y zero s h = absurd (omega arith)
at-growths_below g y (suc k) s h =
    by_cases (ℕ_discrete s k)
    (λ e. rw e (get_or_at (growths_below g y k) (growth g y k) [] 0 k (length-growths_below g y k)))
    (λ e. get_or-append (growths_below g y k) (growth g y k ∷ []) 0 s (omega (arith, length-growths_below g y k)) ∙ at-growths_below g y k s (omega arith))

pub length-table_from_distances : (g : WeightedGraph) (y : List ℕ) → length (table_from_distances g y) ≡ sides g
unfolding table_from_distances
length-table_from_distances g y = length-growths_below g y (sides g)

pub at-table_from_distances : (g : WeightedGraph) (y : List ℕ) (s : ℕ) → s < sides g → get_or (table_from_distances g y) s 0 ≡ growth g y s
unfolding table_from_distances
at-table_from_distances g y s h = at-growths_below g y (sides g) s h
