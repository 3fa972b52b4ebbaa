-- Every vertex has a mark exactly where each reaches vertex 3.
use Rattle.std.specs.Prelude.{◌≡◌, ◌≢◌, ◌↔◌, true, List, [], ◌∷◌, ltb, get_or, take}
use Rattle.std.proofs.Math.Path.{refl}
use Prim.Native.Nat.{ℕ, zero, suc, ◌+◌, ◌-◌, ◌*◌, ◌/◌, ◌%◌, ◌≤◌, ◌<◌}
use native.Mathlib.Omega.{arith}
use Rattle.std.proofs.Math.ListN.{length}
use borrow.Author.Tests.{eqb-true, ltb-true, lt-ltb}
use Rattle.graph.specs.Basic.{fold, member, any, below}
use Rattle.graph.specs.Open.{Edge, ends_of, flag_in}
use Rattle.graph.specs.laws.State.{if-cases, fold-none, fold_more, fold_done, by-parity}
use Rattle.graph.specs.laws.Shape.{length-ends}
use Rattle.graph.specs.laws.Members.{all-below-at, all-below-from}
use Rattle.distance.specs.Graph.{WeightedGraph, WellFormed, Virtual, sides, near, across, other_side, Walk, trivial}
use Rattle.distance.specs.Nearest.{ReachesVirtual}
use Rattle.distance.specs.Reach.{HasMark, ReachMarks, AllSpread}
use Rattle.distance.proofs.Theorems.{mark-spreads, marks-tell-reach}
use Rattle.distance.proofs.laws.Side.{opposite-in, near-opposite, across-opposite}
use Rattle.opened_graph.specs.OpenedGraph.{opened_graph}
use Rattle.small_patches.specs.SmallPatch.{SmallPatch, patch_graph}
use Rattle.small_patches.specs.Reach.{EachReaches, spread_to, spread_along, spread_over, times, marks_of, has_mark, all_reach}
use Rattle.small_patches.proofs.laws.Entries.{entry-at, all-entry, no_edge}
use Rattle.small_patches.proofs.laws.Opens.{patch-formed}
use Rattle.small_patches.proofs.laws.Spread.{same_marks, spread_out, patch-spread-out}

-- ---- the ends of edge i
left_end : (es : List Edge) (i : ℕ) → i < length es → get_or (ends_of es) (2 * i) 0 ≡ (get_or es i no_edge).left
unfolding ends_of
left_end [] i h = absurd (omega arith)
left_end (e ∷ es) zero h = refl
left_end (e ∷ es) (suc i) h = let z : 2 * suc i ≡ suc (suc (2 * i)) = omega arith in rw z (left_end es i (omega arith))

right_end : (es : List Edge) (i : ℕ) → i < length es → get_or (ends_of es) (2 * i + 1) 0 ≡ (get_or es i no_edge).right
unfolding ends_of
right_end [] i h = absurd (omega arith)
right_end (e ∷ es) zero h = refl
right_end (e ∷ es) (suc i) h = let z : 2 * suc i + 1 ≡ suc (suc (2 * i + 1)) = omega arith in rw z (right_end es i (omega arith))

-- ---- vertex 3

module _ (es : List Edge) where
  virtual-3 : Virtual (patch_graph es) 3
  unfolding opened_graph flag_in member any below
  virtual-3 = omega arith

  only-3 : (v : ℕ) → Virtual (patch_graph es) v → v ≡ 3
  unfolding opened_graph flag_in member any below
  only-3 zero h = absurd (omega arith)
  only-3 (suc zero) h = absurd (omega arith)
  only-3 (suc (suc zero)) h = absurd (omega arith)
  only-3 (suc (suc (suc zero))) h = refl
  only-3 (suc (suc (suc (suc v)))) h = absurd (omega arith)

-- ---- marks

-- those of the start: vertex 3 has one
abbrev first : List ℕ
first = 0 ∷ 0 ∷ 0 ∷ 1 ∷ []

marked-first : (u : ℕ) → HasMark first u → u ≡ 3
marked-first zero h = absurd (omega arith)
marked-first (suc zero) h = absurd (omega arith)
marked-first (suc (suc zero)) h = absurd (omega arith)
marked-first (suc (suc (suc zero))) h = refl
marked-first (suc (suc (suc (suc u)))) h = absurd (omega arith)

module _ (es : List Edge) (ok : WellFormed (patch_graph es)) where
  abbrev g : WeightedGraph
  g = patch_graph es

  -- vertex 3 reaches itself
  there : ReachesVirtual g 3
  unfolding opened_graph
  there = record { vertex = 3; placed = omega arith; virtual = virtual-3 es; total = 0; walk = trivial }

  first_marks : ReachMarks g first
  unfolding opened_graph
  first_marks = record {
    sized = refl;
    virtuals = λ v h k. rw (only-3 es v k) (omega arith);
    reaching = λ u h. rw (marked-first u h) there;
  }

  -- along one side
  to-keeps : (m : List ℕ) (s : ℕ) → s < sides g → ReachMarks g m
      → ReachMarks g (spread_to m (near g s) (across g s))
  unfolding spread_to
  to-keeps m s h r =
      if-cases (ReachMarks g) (ltb 0 (get_or m (near g s) 0))
      (λ e. mark-spreads g ok m r s h (ltb-true 0 _ e))
      (λ e. r)

  -- along edge i
  module _ (i : ℕ) (h : i < length es) where
    inside : 2 * i < sides g
    unfolding opened_graph
    inside = omega (arith, length-ends es)

    near-is : near g (2 * i) ≡ (get_or es i no_edge).left
    unfolding opened_graph near
    near-is = left_end es i h

    across-is : across g (2 * i) ≡ (get_or es i no_edge).right
    unfolding opened_graph across other_side
    across-is = let z : 2 * i + 1 - 2 * (2 * i % 2) ≡ 2 * i + 1 = omega arith in rw z (right_end es i h)

    edge-keeps : (m : List ℕ) → ReachMarks g m → ReachMarks g (spread_along m (get_or es i no_edge))
    unfolding spread_along
    edge-keeps m r =
        let there = to-keeps m (2 * i) inside r in
        let back = to-keeps _ (other_side (2 * i)) (opposite-in g ok (2 * i) inside) there in
        rw (near-opposite g (2 * i), across-opposite g (2 * i), near-is, across-is) at back

  -- along all edges, n times
  fold-marks : (m : List ℕ) → ReachMarks g m → (i : ℕ) → i ≤ length es → ReachMarks g (fold spread_along m (take i es))
  fold-marks m r zero h = rw (fold-none spread_along m es) r
  fold-marks m r (suc i) h =
      let z : suc i ≡ i + 1 = omega arith in
      rw (z, fold_more spread_along m es i no_edge (omega arith)) (edge-keeps i (omega arith) _ (fold-marks m r i (omega arith)))

  over-marks : (n : ℕ) (m : List ℕ) → ReachMarks g m → ReachMarks g (spread_over es n m)
  unfolding spread_over
  over-marks zero m r = r
  over-marks (suc n) m r =
      let before = spread_over es n m in
      rw (← fold_done spread_along before es (length es) (omega arith)) (fold-marks before (over-marks n m r) (length es) (omega arith))

  pub marks-reach : ReachMarks g (marks_of es)
  unfolding marks_of
  marks-reach = over-marks times first first_marks

  -- ---- none is left to spread

  module _ (out : spread_out es ≡ true) where
    -- both ends of edge i have the same mark
    same-mark : (i : ℕ) → i < length es → get_or (marks_of es) (near g (2 * i)) 0 ≡ get_or (marks_of es) (across g (2 * i)) 0
    unfolding spread_out same_marks
    same-mark i h =
        rw (near-is i h, across-is i h) (eqb-true _ _ (all-entry (same_marks (marks_of es)) out (entry-at no_edge es i h)))

    marks-spread : AllSpread g (marks_of es)
    unfolding opened_graph
    marks-spread s h =
        let i : s / 2 < length es = omega (arith, length-ends es) in
        by-parity (HasMark (marks_of es) (near g s) → HasMark (marks_of es) (across g s)) s
        (λ e. let z : 2 * (s / 2) ≡ s = omega arith in λ k. omega (arith, rw z at (same-mark (s / 2) i)))
        (λ e.
        let z : other_side (2 * (s / 2)) ≡ s = unfold other_side in (omega arith) in
        rw (← z, near-opposite g (2 * (s / 2)), across-opposite g (2 * (s / 2))) (λ k. omega (arith, same-mark (s / 2) i)))

-- ---- every vertex

module _ (es : List Edge) (p : SmallPatch es) (some : es ≢ []) where
  -- the vertices with a mark are those from which a walk leads to vertex 3
  marked-reach : (a : ℕ) → a < 4 → HasMark (marks_of es) a ↔ ((n : ℕ) × Walk (patch_graph es) a 3 n)
  unfolding opened_graph
  marked-reach a h =
      let ok = patch-formed es p some in
      let all = marks-spread es ok (patch-spread-out es p) in
      let told = marks-tell-reach (patch_graph es) ok (marks_of es) (marks-reach es ok) all a h in (
        λ k. let w = told.0 k in (w.total, rw (only-3 es w.vertex w.virtual) at w.walk),
        λ w. told.1 (record { vertex = 3; placed = omega arith; virtual = virtual-3 es; total = w.0; walk = w.1 }),
      )

  pub reach-exactly : (all_reach es ≡ true) ↔ EachReaches es
  unfolding all_reach
  reach-exactly = (
    λ t a h. (marked-reach a h).0 (ltb-true 0 _ (all-below-at (has_mark (marks_of es)) 4 a t h)),
    λ r. all-below-from (has_mark (marks_of es)) 4 (λ a h. lt-ltb 0 _ ((marked-reach a h).1 (r a h))),
  )
