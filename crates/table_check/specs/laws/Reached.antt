-- Marks that spread from the virtual vertices tell, in the end, which vertices reach one.
use Prim.Native.Nat.{ℕ, zero, suc, ◌+◌, ◌*◌, ◌≤◌, ◌<◌}
use native.Mathlib.Omega.{arith}
use Rattle.std.proofs.Math.Decide.{ℕ_discrete}
use Rattle.std.specs.Prelude.{◌≡◌, not, List, ℤ, ltb, get_or, replicate}
use Rattle.std.proofs.Math.Path.{refl, sym}
use Rattle.std.proofs.Common.{◌∙◌, ltb-true}
use Rattle.std.proofs.Math.Logic.{by_cases}
use Rattle.std.proofs.Math.Bool.{true, false}
use Rattle.std.proofs.Math.ListN.{length, length-replicate}
use Rattle.std.proofs.lemmas.Bool.{not-true}
use Rattle.graph.specs.Basic.{all, member}
use Rattle.graph.specs.Word.{word_at}
use Rattle.graph.specs.Opening.{edges_in, virtuals_from}
use Rattle.graph.specs.laws.State.{and_left, and_right}
use Rattle.graph.specs.laws.Members.{by-test, clash, member-at, all-at, all-below-at, all-below-from}
use Rattle.distance.specs.Graph.{WeightedGraph, WellFormed, Virtual, sides, near, across, trivial}
use Rattle.distance.specs.Nearest.{ReachesVirtual, VirtualInReach}
use Rattle.distance.specs.Reach.{HasMark, ReachMarks, AllSpread}
use Rattle.distance.proofs.Theorems.{mark-spreads, marks-tell-reach}
use Rattle.distance.proofs.laws.Side.{across-placed}
use Rattle.open_graph.specs.laws.Open.{virtuals-count, virtuals-get}
use Rattle.table_words.specs.Sides.{near_in, across_in, marked, mark_if, marks_by}
use Rattle.table_check.specs.Tests.{spreads_at, spread_side, spread_sides, spread_new, spread_until, virtual_marks, all_marked}
use Rattle.table_check.specs.laws.Marks.{marked-has, has-marked, not-marked, no-marks, marks-length, marks-there, marks-from, count_marks, count-new, count-full}
use Rattle.table_check.specs.laws.Wiring.{graph_in, sides-are, size_is, near-is, across-is, virtual-member, member-virtual}
use Rattle.table_check.specs.laws.Members.{place_of}

module _ (v e : ℕ) (edges virtuals : List ℤ) (count : edges_in edges ≡ e) (ok : WellFormed (graph_in v edges virtuals))
    (inside : all (λ x. ltb x v) (virtuals_from virtuals) ≡ true) where
  g : WeightedGraph
  g = graph_in v edges virtuals

  -- ---- at first

  begun : ReachMarks (graph_in v edges virtuals) (virtual_marks virtuals (replicate v 0))
  unfolding virtual_marks
  begun = record {
    sized =
        marks-length (λ k. true) (word_at virtuals) (replicate v 0) (length virtuals) ∙ length-replicate {A = ℕ} v 0
        ∙ sym (size_is v e edges virtuals count);
    virtuals = λ a h w. there a (rw (size_is v e edges virtuals count) at h) w;
    reaching = λ u h. marks-from (λ k. true) (word_at virtuals) (replicate v 0) (length virtuals) u h (no-marks v u) (λ k l t q. from k u l q);
  }
    where
      there : (a : ℕ) → a < v → Virtual (graph_in v edges virtuals) a → HasMark (marks_by (λ k. true) (word_at virtuals) (replicate v 0) (length virtuals)) a
      there a h w =
          let p = place_of a (virtuals_from virtuals) (virtual-member v edges virtuals a h w) in
          let q : word_at virtuals p.0 ≡ a = sym (virtuals-get virtuals p.0) ∙ p.2 in
          rw q at (marks-there (λ k. true) (word_at virtuals) (replicate v 0) (length virtuals) p.0 (rw (virtuals-count virtuals) at p.1) refl
          (rw (length-replicate {A = ℕ} v 0) (rw q h)))

      from : (k u : ℕ) → k < length virtuals → word_at virtuals k ≡ u → ReachesVirtual (graph_in v edges virtuals) u
      from k u l q =
          let k' : k < length (virtuals_from virtuals) = rw (virtuals-count virtuals) l in
          let z : get_or (virtuals_from virtuals) k 0 ≡ u = virtuals-get virtuals k ∙ q in
          let m : member u (virtuals_from virtuals) ≡ true = rw z at (member-at (virtuals_from virtuals) k 0 k') in
          let s : u < v = rw z at (ltb-true (get_or (virtuals_from virtuals) k 0) v (all-at (λ x. ltb x v) (virtuals_from virtuals) k inside k')) in
          record {
            vertex = u;
            placed = rw (size_is v e edges virtuals count) s;
            virtual = member-virtual v edges virtuals u s m;
            total = 0;
            walk = trivial;
          }

  -- ---- along a side

  module _ (m : List ℕ) (r : ReachMarks (graph_in v edges virtuals) m) (s : ℕ) (h : s < 2 * e) where
    h' : s < sides (graph_in v edges virtuals)
    h' = rw (sides-are v e edges virtuals count) h

    kept : ReachMarks (graph_in v edges virtuals) (spread_side edges m s)
    unfolding spread_side mark_if
    kept = by-test (spreads_at m edges s) (λ t. rw t (rw (across-is v e edges virtuals count s h) at (mark-spreads _ ok m r s h' (source t)))) (λ t. rw t r)
      where
        source : spreads_at m edges s ≡ true → HasMark m (near (graph_in v edges virtuals) s)
        source t =
            rw (near-is v e edges virtuals count s h)
            (marked-has m _ (and_left (marked m (near_in edges s)) (not (marked m (across_in edges s))) (unfold spreads_at in t)))

    grown : spreads_at m edges s ≡ true → count_marks (spread_side edges m s) ≡ suc (count_marks m)
    unfolding spread_side mark_if spreads_at
    grown t =
        let n = not-marked m (across_in edges s) (not-true _ (and_right (marked m (near_in edges s)) (not (marked m (across_in edges s))) t)) in
        let l : across_in edges s < length m = rw (r.sized, ← across-is v e edges virtuals count s h) (across-placed _ ok s h') in
        rw t (count-new m (across_in edges s) l n)

    still : spreads_at m edges s ≡ false → spread_side edges m s ≡ m
    unfolding spread_side mark_if
    still t = rw t

  -- ---- along sides 0 to k - 1

  sides-kept : (m : List ℕ) → ReachMarks (graph_in v edges virtuals) m → (k : ℕ) → k ≤ 2 * e → ReachMarks (graph_in v edges virtuals) (spread_sides edges m k)
  unfolding spread_sides
  sides-kept m r zero h = r
  sides-kept m r (suc k) h = kept (spread_sides edges m k) (sides-kept m r k (omega arith)) k (omega arith)

  sides-count : (m : List ℕ) → ReachMarks (graph_in v edges virtuals) m → (k : ℕ) → k ≤ 2 * e → count_marks m ≤ count_marks (spread_sides edges m k)
  unfolding spread_sides
  sides-count m r zero h = omega arith
  sides-count m r (suc k) h =
      let x = spread_sides edges m k in
      let c = sides-count m r k (omega arith) in
      by-test (spreads_at x edges k)
      (λ t. omega (arith, c, grown x (sides-kept m r k (omega arith)) k (omega arith) t))
      (λ t. rw (still x (sides-kept m r k (omega arith)) k (omega arith) t) c)

  sides-new : (m : List ℕ) → ReachMarks (graph_in v edges virtuals) m → (k : ℕ) → k ≤ 2 * e → spread_new edges m k ≡ true
      → count_marks m < count_marks (spread_sides edges m k)
  unfolding spread_sides spread_new
  sides-new m r zero h t = clash false t refl
  sides-new m r (suc k) h t =
      let x = spread_sides edges m k in
      let ih : spread_new edges m k ≡ true → count_marks m < count_marks x = sides-new m r k (omega arith) in
      by-test (spreads_at x edges k)
      (λ q. omega (arith, sides-count m r k (omega arith), grown x (sides-kept m r k (omega arith)) k (omega arith) q))
      (λ q. rw (still x (sides-kept m r k (omega arith)) k (omega arith) q) (ih (rw q at t)))

  sides-old : (m : List ℕ) → ReachMarks (graph_in v edges virtuals) m → (k : ℕ) → k ≤ 2 * e → spread_new edges m k ≡ false
      → (spread_sides edges m k ≡ m) × ((s : ℕ) → s < k → spreads_at m edges s ≡ false)
  unfolding spread_sides spread_new
  sides-old m r zero h t = (refl, λ s l. absurd (omega arith))
  sides-old m r (suc k) h t =
      let x = spread_sides edges m k in
      let ih : spread_new edges m k ≡ false → (x ≡ m) × ((s : ℕ) → s < k → spreads_at m edges s ≡ false) = sides-old m r k (omega arith) in
      by-test (spreads_at x edges k)
      (λ q. clash true refl (rw q at t))
      (λ q.
      let o = ih (rw q at t) in (
        still x (sides-kept m r k (omega arith)) k (omega arith) q ∙ o.0,
        λ s l. by_cases (ℕ_discrete s k) (λ z. rw z (rw o.0 at q)) (λ z. o.1 s (omega arith)),
      ))

  -- where no mark is new, none is left to spread
  spread-all : (m : List ℕ) → ((s : ℕ) → s < 2 * e → spreads_at m edges s ≡ false) → AllSpread (graph_in v edges virtuals) m
  spread-all m none s h k =
      let l : s < 2 * e = rw (sides-are v e edges virtuals count) at h in
      rw (across-is v e edges virtuals count s l) (go l (rw (near-is v e edges virtuals count s l) at k))
    where
      go : s < 2 * e → HasMark m (near_in edges s) → HasMark m (across_in edges s)
      go l k =
          by-test (marked m (across_in edges s)) (marked-has m _)
          (λ q. clash (spreads_at m edges s) (unfold spreads_at in (rw (has-marked m (near_in edges s) k, q))) (none s l))

  -- ---- until none is new

  record Ended (m : List ℕ) : Type 0 where
    pub marks : ReachMarks (graph_in v edges virtuals) m
    pub all-spread : AllSpread (graph_in v edges virtuals) m

  ended : (f : ℕ) (m : List ℕ) → ReachMarks (graph_in v edges virtuals) m → v ≤ count_marks m + f → Ended (spread_until e edges f m)
  unfolding spread_until
  ended zero m r h = record {
    marks = r;
    all-spread =
        λ s l k. count-full m (across (graph_in v edges virtuals) s) (rw (r.sized, size_is v e edges virtuals count) (omega arith))
        (rw r.sized (across-placed _ ok s l));
  }
  ended (suc f) m r h =
      let x = spread_sides edges m (2 * e) in
      let ih : v ≤ count_marks x + f → Ended (spread_until e edges f x) = ended f x (sides-kept m r (2 * e) (omega arith)) in
      by-test (spread_new edges m (2 * e))
      (λ t. rw t (ih (omega (arith, sides-new m r (2 * e) (omega arith) t))))
      (λ t. let o = sides-old m r (2 * e) (omega arith) t in rw (t, o.0) (record { marks = r; all-spread = spread-all m o.1 }))

  -- ---- the test

  last : Ended (spread_until e edges v (virtual_marks virtuals (replicate v 0)))
  last = ended v (virtual_marks virtuals (replicate v 0)) begun (omega arith)

  pub marked-reach : all_marked v e edges virtuals (replicate v 0) ≡ true → VirtualInReach (graph_in v edges virtuals)
  unfolding all_marked
  marked-reach h a l =
      let l' : a < v = rw (size_is v e edges virtuals count) at l in
      (marks-tell-reach _ ok _ last.marks last.all-spread a l).0
      (marked-has (spread_until e edges v (virtual_marks virtuals (replicate v 0))) a
      (all-below-at (marked (spread_until e edges v (virtual_marks virtuals (replicate v 0)))) v a h l'))

  pub reach-marked : VirtualInReach (graph_in v edges virtuals) → all_marked v e edges virtuals (replicate v 0) ≡ true
  unfolding all_marked
  reach-marked h =
      all-below-from (marked (spread_until e edges v (virtual_marks virtuals (replicate v 0)))) v
      (λ a l. let l' : a < (graph_in v edges virtuals).size = rw (size_is v e edges virtuals count) l in has-marked
      (spread_until e edges v (virtual_marks virtuals (replicate v 0))) a
      ((marks-tell-reach _ ok _ last.marks last.all-spread a l').1 (h a l')))
