-- What the tests of the code show, as facts: side by side and defect by defect.
use Prim.Native.Nat.{ℕ, zero, suc, ◌+◌, ◌*◌, ◌≤◌, ◌<◌}
use Rattle.std.proofs.Common.{arith, ◌∙◌, length-take}
use Rattle.std.proofs.Math.Decide.{ℕ_discrete, dec_lt}
use Rattle.std.specs.Prelude.{◌≡◌, refl, ◌≢◌, Bool, ◌&&◌, List, [], ◌∷◌, ℤ, negsuc, eqb, leb, ltb, get_or, take, drop, replicate}
use Rattle.std.proofs.Math.Path.{sym}
use Rattle.std.proofs.Math.Logic.{by_cases}
use Rattle.std.proofs.Math.Bool.{true, false}
use Rattle.std.proofs.Math.ListN.{length, length-replicate}
use borrow.Author.Tests.{eqb-true, eq-eqb, leb-true, le-leb, lt-ltb, ltb-true}
use Rattle.graph.specs.Basic.{all, member, all_below}
use Rattle.graph.specs.Word.{word_at}
use Rattle.graph.specs.Opening.{virtuals_from}
use Rattle.graph.specs.laws.State.{and_left, and_right}
use Rattle.graph.specs.laws.Number.{word_below}
use Rattle.graph.specs.laws.Members.{by-test, both, or_cases, or_left, or_right, member-at, all-at, all_first, all_others, all-below-at, all-below-from}
use Rattle.open_graph.specs.laws.Open.{virtuals-count, virtuals-get}
use Rattle.distance.specs.Graph.{WellFormed, Positive, Virtual}
use Rattle.distance.specs.Distance.{unreachable, dist}
use Rattle.distance.specs.Nearest.{VirtualInReach}
use Rattle.distance.specs.Reach.{HasMark}
use Rattle.distance.specs.Table.{share}
use Rattle.table_words.specs.Handed.{distance_of, distance_in, row_of}
use Rattle.table_refuse.specs.Refuse.{distances_in_range}
use Rattle.table_words.specs.Sides.{near_in, across_in, weight_in, marked}
use Rattle.table_rows.specs.Row.{covers_at, cover_marks, defect_pair_at, virtual_pair_at, side_at, free_at, row_right}
use Rattle.table_check.specs.Tests.{covered_by, rows_right, positive_in, all_marked, tested}
use Rattle.table_distances.specs.Certificate.{certified}
use Rattle.table_words.specs.laws.Words.{distance-outside}
use Rattle.table_check.specs.laws.Marks.{marked-has, not-marked, no-marks, marks-length, marks-there, marks-kept, marks-from}
use Rattle.table_check.specs.laws.Wiring.{graph_in, sides-are, size_is, near-is, weight_is, virtual-member, member-virtual}
use Rattle.table_check.specs.laws.Members.{place_of}
use Rattle.table_check.specs.laws.Accepted.{Accepted, formed}
use Rattle.table_check.specs.laws.Reached.{marked-reach, reach-marked}
use Rattle.table_check.specs.laws.Certified.{certified-shortest, shortest-certified}

-- ---- rows

all_drop : {A : Type 0} (p : A → Bool) (n : ℕ) (l : List A) → all p l ≡ true → all p (drop n l) ≡ true
all_drop p zero l h = h
all_drop p (suc n) [] h = h
all_drop p (suc n) (x ∷ l) h = all_drop p n l (all_others p x l h)

capped-in : (l : List ℤ) → all (λ x. leb (distance_of x) unreachable) l ≡ true → (n u : ℕ) → distance_of (get_or (take n l) u (negsuc 0)) ≤ unreachable
unfolding distance_of
capped-in l h zero u = omega arith
capped-in [] h (suc n) u = omega arith
capped-in (x ∷ l) h (suc n) zero = leb-true (distance_of x) unreachable (all_first (λ y. leb (distance_of y) unreachable) x l h)
capped-in (x ∷ l) h (suc n) (suc u) = capped-in l (all_others (λ y. leb (distance_of y) unreachable) x l h) n u

pub distances-capped : (v : ℕ) (distances : List ℤ) → distances_in_range distances ≡ true → (i u : ℕ) → distance_in (row_of v distances i) u ≤ unreachable
unfolding distances_in_range distance_in
distances-capped v distances h i u = capped-in (drop (i * v) distances) (all_drop (λ x. leb (distance_of x) unreachable) (i * v) distances h) v u

pub distances-outside : (v : ℕ) (distances : List ℤ) (i u : ℕ) → v ≤ u → distance_in (row_of v distances i) u ≡ unreachable
distances-outside v distances i u h =
    let l : length (row_of v distances i) ≤ u = simp length-take (omega arith) in
    sym (distance-outside (row_of v distances i) u l) ∙ (unfold unreachable in refl)

-- a number below n that passes a test, or none does
pub find-below : {P : Type 0} (p : ℕ → Bool) (n : ℕ) → ((i : ℕ) → i < n → p i ≡ true → P) → (((i : ℕ) → i < n → p i ≡ false) → P) → P
find-below p zero f none = none (λ i h. absurd (omega arith))
find-below p (suc n) f none =
    by-test (p n) (λ t. f n (omega arith) t)
    (λ t. find-below p n (λ i h q. f i (omega arith) q) (λ g. none (λ i h. by_cases (ℕ_discrete i n) (λ z. rw z t) (λ z. g i (omega arith)))))

-- ---- the facts

module _ (v e : ℕ) (edges virtuals defects duals growths distances : List ℤ) where
  -- the distance from defect i to u, as it was handed over
  abbrev pub given : ℕ → ℕ → ℕ
  given i = distance_in (row_of v distances i)

  pub record Facts : Type 0 where
    pub positive : Positive (graph_in v edges virtuals)
    pub reach : VirtualInReach (graph_in v edges virtuals)
    pub shortest : (i u : ℕ) → i < length defects → u < v → given i u ≡ dist (graph_in v edges virtuals) (word_at defects i) u
    pub pairs : (i j : ℕ) → i < length defects → j < length defects → i ≢ j
        → word_at duals i + word_at duals j ≤ dist (graph_in v edges virtuals) (word_at defects i) (word_at defects j)
    pub far : (i a : ℕ) → i < length defects → a < v → Virtual (graph_in v edges virtuals) a
        → word_at duals i ≤ dist (graph_in v edges virtuals) (word_at defects i) a
    pub covered : (i s : ℕ) → i < length defects → s < 2 * e → given i (near_in edges s) < word_at duals i
        → word_at growths s ≡ share (word_at duals i) (given i (near_in edges s)) (given i (across_in edges s)) (weight_in edges s)
    pub free : (s : ℕ) → s < 2 * e → ((i : ℕ) → i < length defects → word_at duals i ≤ given i (near_in edges s)) → word_at growths s ≡ 0

  module _ (acc : Accepted v e edges virtuals defects duals growths distances) where
    ok : WellFormed (graph_in v edges virtuals)
    ok = formed v e edges virtuals defects duals growths distances acc

    pub defect-in : (i : ℕ) → i < length defects → word_at defects i < v
    defect-in i h = word_below v defects i acc.defects-ok h

    near-in : (s : ℕ) → s < 2 * e → near_in edges s < v
    near-in s h =
        let p = ok.placed s (rw (sides-are v e edges virtuals acc.edge-count) h) in
        omega (arith, p, near-is v e edges virtuals acc.edge-count s h, size_is v e edges virtuals acc.edge-count)

    -- ---- marks of covered vertices

    covers-length : (n : ℕ) → length (covered_by v given duals n) ≡ 1024
    unfolding covered_by cover_marks
    covers-length zero = length-replicate {A = ℕ} 1024 0
    covers-length (suc n) = marks-length (covers_at (given n) (word_at duals n)) (λ u. u) (covered_by v given duals n) v ∙ covers-length n

    covers-there : (n i u : ℕ) → i < n → u < v → given i u < word_at duals i → HasMark (covered_by v given duals n) u
    unfolding covered_by cover_marks
    covers-there zero i u h k l = absurd (omega arith)
    covers-there (suc n) i u h k l =
        by_cases (ℕ_discrete i n)
        (λ q. marks-there (covers_at (given n) (word_at duals n)) (λ x. x) (covered_by v given duals n) v u k (lt-ltb (given n u) (word_at duals n) (rw q at l))
        (rw (covers-length n) (omega (arith, acc.v-max))))
        (λ q. marks-kept (covers_at (given n) (word_at duals n)) (λ x. x) (covered_by v given duals n) v u (covers-there n i u (omega arith) k l))

    covers-from : {P : Type 0} (n u : ℕ) → HasMark (covered_by v given duals n) u → ((i : ℕ) → i < n → given i u < word_at duals i → P) → P
    unfolding covered_by cover_marks
    covers-from zero u h f = no-marks 1024 u h
    covers-from (suc n) u h f =
        marks-from (covers_at (given n) (word_at duals n)) (λ x. x) (covered_by v given duals n) v u h
        (λ o. covers-from n u o (λ i l k. f i (omega arith) k))
        (λ s l t q. f n (omega arith) (rw q at (ltb-true (given n s) (word_at duals n) t)))

    -- ---- from the tests

    module _ (t : tested v e edges virtuals defects duals growths given ≡ true) where
      A : Bool
      A = all_below (positive_in edges) (2 * e)

      second : all_marked v e edges virtuals (replicate v 0) && rows_right v e edges virtuals defects duals growths given ≡ true
      unfolding tested
      second = and_right (all_below (positive_in edges) (2 * e)) _ t

      positive' : Positive (graph_in v edges virtuals)
      unfolding tested positive_in
      positive' s h =
          let l : s < 2 * e = rw (sides-are v e edges virtuals acc.edge-count) at h in
          rw (weight_is v e edges virtuals acc.edge-count s l)
          (ltb-true 0 (weight_in edges s) (all-below-at (positive_in edges) (2 * e) s
          (and_left (all_below (positive_in edges) (2 * e))
          (all_marked v e edges virtuals (replicate v 0) && rows_right v e edges virtuals defects duals growths given) t) l))

      reach' : VirtualInReach (graph_in v edges virtuals)
      reach' =
          marked-reach v e edges virtuals acc.edge-count ok acc.virtuals-ok
          (and_left (all_marked v e edges virtuals (replicate v 0)) (rows_right v e edges virtuals defects duals growths given) second)

      rows : (all_below (λ i. row_right v e edges virtuals defects duals growths (given i) i) (length defects) ≡ true)
          × (all_below (free_at edges growths (covered_by v given duals (length defects))) (2 * e) ≡ true)
      unfolding rows_right
      rows =
          let r = and_right (all_marked v e edges virtuals (replicate v 0)) (rows_right v e edges virtuals defects duals growths given) second in
          let x = all_below (λ i. row_right v e edges virtuals defects duals growths (given i) i) (length defects) in
          let y = all_below (free_at edges growths (covered_by v given duals (length defects))) (2 * e) in
          (and_left x y r, and_right x y r)

      row : (i : ℕ) → i < length defects → (certified v e edges (word_at defects i) (given i) ≡ true)
          × (all_below (defect_pair_at defects duals (given i) i) (length defects) ≡ true)
          × (all_below (virtual_pair_at virtuals (given i) (word_at duals i)) (length virtuals) ≡ true)
          × (all_below (side_at edges growths (given i) (word_at duals i)) (2 * e) ≡ true)
      unfolding row_right
      row i h =
          let r = all-below-at (λ i. row_right v e edges virtuals defects duals growths (given i) i) (length defects) i rows.0 h in
          let x = certified v e edges (word_at defects i) (given i) in
          let y = all_below (defect_pair_at defects duals (given i) i) (length defects) in
          let z = all_below (virtual_pair_at virtuals (given i) (word_at duals i)) (length virtuals) in
          let w = all_below (side_at edges growths (given i) (word_at duals i)) (2 * e) in
          let r₂ = and_right x (y && (z && w)) r in
          let r₃ = and_right y (z && w) r₂ in
          (and_left x (y && (z && w)) r, and_left y (z && w) r₂, and_left z w r₃, and_right z w r₃)

      is : (i : ℕ) → i < length defects → (u : ℕ) → given i u ≡ dist (graph_in v edges virtuals) (word_at defects i) u
      is i h =
          certified-shortest v e edges virtuals acc.edge-count ok acc.v-max (word_at defects i) (defect-in i h) (given i)
          (distances-capped v distances acc.distances-ok i) (distances-outside v distances i) (row i h).0 positive'

      pairs' : (i j : ℕ) → i < length defects → j < length defects → i ≢ j
          → word_at duals i + word_at duals j ≤ dist (graph_in v edges virtuals) (word_at defects i) (word_at defects j)
      unfolding defect_pair_at
      pairs' i j h k q =
          or_cases (eqb i j) (leb (word_at duals i + word_at duals j) (given i (word_at defects j)))
          (all-below-at (defect_pair_at defects duals (given i) i) (length defects) j (row i h).1 k)
          (λ z. absurd (q (eqb-true i j z)))
          (λ z. rw (← is i h (word_at defects j)) (leb-true _ _ z))

      far' : (i a : ℕ) → i < length defects → a < v → Virtual (graph_in v edges virtuals) a
          → word_at duals i ≤ dist (graph_in v edges virtuals) (word_at defects i) a
      unfolding virtual_pair_at
      far' i a h l w =
          let p = place_of a (virtuals_from virtuals) (virtual-member v edges virtuals a l w) in
          let q : word_at virtuals p.0 ≡ a = sym (virtuals-get virtuals p.0) ∙ p.2 in
          let k : p.0 < length virtuals = rw (virtuals-count virtuals) at p.1 in
          rw (← is i h a, ← q)
          (leb-true (word_at duals i) (given i (word_at virtuals p.0))
          (all-below-at (virtual_pair_at virtuals (given i) (word_at duals i)) (length virtuals) p.0 (row i h).2 k))

      covered' : (i s : ℕ) → i < length defects → s < 2 * e → given i (near_in edges s) < word_at duals i
          → word_at growths s ≡ share (word_at duals i) (given i (near_in edges s)) (given i (across_in edges s)) (weight_in edges s)
      unfolding side_at
      covered' i s h l c =
          or_cases (leb (word_at duals i) (given i (near_in edges s)))
          (eqb (word_at growths s) (share (word_at duals i) (given i (near_in edges s)) (given i (across_in edges s)) (weight_in edges s)))
          (all-below-at (side_at edges growths (given i) (word_at duals i)) (2 * e) s (row i h).3 l)
          (λ z. absurd (omega (arith, leb-true (word_at duals i) (given i (near_in edges s)) z)))
          (λ z. eqb-true _ _ z)

      free' : (s : ℕ) → s < 2 * e → ((i : ℕ) → i < length defects → word_at duals i ≤ given i (near_in edges s)) → word_at growths s ≡ 0
      unfolding free_at
      free' s l none =
          or_cases (marked (covered_by v given duals (length defects)) (near_in edges s)) (eqb (word_at growths s) 0)
          (all-below-at (free_at edges growths (covered_by v given duals (length defects))) (2 * e) s rows.1 l)
          (λ z. covers-from (length defects) (near_in edges s) (marked-has (covered_by v given duals (length defects)) (near_in edges s) z)
          (λ i h k. absurd (omega (arith, none i h))))
          (λ z. eqb-true _ _ z)

      pub tested-facts : Facts
      tested-facts = record {
        positive = positive';
        reach = reach';
        shortest = λ i u h l. is i h u;
        pairs = pairs';
        far = far';
        covered = covered';
        free = free';
      }

    -- ---- to the tests

    module _ (f : Facts) where
      row-passes : (i : ℕ) → i < length defects → row_right v e edges virtuals defects duals growths (given i) i ≡ true
      unfolding row_right defect_pair_at virtual_pair_at side_at
      row-passes i h =
          both (certified v e edges (word_at defects i) (given i)) _
          (shortest-certified v e edges virtuals acc.edge-count ok acc.v-max (word_at defects i) (defect-in i h) (given i) (λ u l. f.shortest i u h l))
          (both (all_below (defect_pair_at defects duals (given i) i) (length defects)) _
          (all-below-from (defect_pair_at defects duals (given i) i) (length defects) pair)
          (both (all_below (virtual_pair_at virtuals (given i) (word_at duals i)) (length virtuals)) _
          (all-below-from (virtual_pair_at virtuals (given i) (word_at duals i)) (length virtuals) apart)
          (all-below-from (side_at edges growths (given i) (word_at duals i)) (2 * e) side)))
        where
          pair : (j : ℕ) → j < length defects → defect_pair_at defects duals (given i) i j ≡ true
          pair j k =
              (by_cases (ℕ_discrete i j) (λ q. or_left _ _ (eq-eqb i j q))
              (λ q. or_right (eqb i j) _
              (le-leb (word_at duals i + word_at duals j) (given i (word_at defects j))
              (rw (f.shortest i (word_at defects j) h (defect-in j k)) (f.pairs i j h k q)))))

          apart : (k : ℕ) → k < length virtuals → virtual_pair_at virtuals (given i) (word_at duals i) k ≡ true
          apart k l =
              let k' : k < length (virtuals_from virtuals) = rw (virtuals-count virtuals) l in
              let z : get_or (virtuals_from virtuals) k 0 ≡ word_at virtuals k = virtuals-get virtuals k in
              let m : member (word_at virtuals k) (virtuals_from virtuals) ≡ true = rw z at (member-at (virtuals_from virtuals) k 0 k') in
              let s : word_at virtuals k < v =
              rw z at (ltb-true (get_or (virtuals_from virtuals) k 0) v (all-at (λ x. ltb x v) (virtuals_from virtuals) k acc.virtuals-ok k')) in
              (le-leb (word_at duals i) (given i (word_at virtuals k))
              (rw (f.shortest i (word_at virtuals k) h s)
              (f.far i (word_at virtuals k) h s (member-virtual v edges virtuals (word_at virtuals k) s m))))

          side : (s : ℕ) → s < 2 * e → side_at edges growths (given i) (word_at duals i) s ≡ true
          side s l =
              (by_cases (dec_lt (given i (near_in edges s)) (word_at duals i))
              (λ c. or_right (leb (word_at duals i) (given i (near_in edges s))) _ (eq-eqb _ _ (f.covered i s h l c)))
              (λ c. or_left _ _ (le-leb (word_at duals i) (given i (near_in edges s)) (omega arith))))

      free-passes : (s : ℕ) → s < 2 * e → free_at edges growths (covered_by v given duals (length defects)) s ≡ true
      unfolding free_at
      free-passes s l =
          by-test (marked (covered_by v given duals (length defects)) (near_in edges s)) (λ t. or_left _ _ t)
          (λ t. or_right (marked (covered_by v given duals (length defects)) (near_in edges s)) _ (eq-eqb _ _ (f.free s l (λ i h. none t i h))))
        where
          none : marked (covered_by v given duals (length defects)) (near_in edges s) ≡ false → (i : ℕ) → i < length defects
              → word_at duals i ≤ given i (near_in edges s)
          none t i h =
              by_cases (dec_lt (given i (near_in edges s)) (word_at duals i))
              (λ c. absurd (not-marked (covered_by v given duals (length defects)) (near_in edges s) t
              (covers-there (length defects) i (near_in edges s) h (near-in s l) c)))
              (λ c. omega arith)

      positive-passes : (s : ℕ) → s < 2 * e → positive_in edges s ≡ true
      unfolding positive_in
      positive-passes s l =
          lt-ltb 0 (weight_in edges s)
          (rw (weight_is v e edges virtuals acc.edge-count s l) at (f.positive s (rw (sides-are v e edges virtuals acc.edge-count) l)))

      pub facts-tested : tested v e edges virtuals defects duals growths given ≡ true
      unfolding tested rows_right
      facts-tested =
          both (all_below (positive_in edges) (2 * e)) _ (all-below-from (positive_in edges) (2 * e) positive-passes)
          (both (all_marked v e edges virtuals (replicate v 0)) _ (reach-marked v e edges virtuals acc.edge-count ok acc.virtuals-ok f.reach)
          (both (all_below (λ i. row_right v e edges virtuals defects duals growths (given i) i) (length defects)) _
          (all-below-from (λ i. row_right v e edges virtuals defects duals growths (given i) i) (length defects) row-passes)
          (all-below-from (free_at edges growths (covered_by v given duals (length defects))) (2 * e) free-passes)))
