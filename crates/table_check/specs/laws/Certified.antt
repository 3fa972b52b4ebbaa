-- The certificate of a row is exact: a row has it just where its entries are the distances.
use Rattle.std.specs.Prelude.{ℕ, ◌+◌, ◌*◌, ◌≤◌, ◌<◌, ◌≡◌, ◌≢◌, true, ◌&&◌, ◌||◌, List, ℤ, eqb, leb, replicate}
use Rattle.std.proofs.Common.{arith, ◌∙◌}
use Rattle.std.proofs.Math.Decide.{ℕ_discrete, dec_lt}
use Rattle.std.proofs.Math.Path.{sym}
use Rattle.std.proofs.Math.Logic.{by_cases}
use Rattle.std.proofs.lemmas.List.{length-replicate}
use borrow.Author.Tests.{eqb-true, eq-eqb, leb-true, le-leb}
use Rattle.graph.specs.Basic.{all_below}
use Rattle.graph.specs.Opening.{edges_in}
use Rattle.graph.specs.laws.State.{and_left, and_right}
use Rattle.graph.specs.laws.Members.{both, or_cases, or_left, or_right, all-below-at, all-below-from}
use Rattle.distance.specs.Graph.{WellFormed, Positive, sides, near, across, weight}
use Rattle.distance.specs.Distance.{unreachable, dist, DistanceCertificate}
use Rattle.distance.proofs.Theorems.{certificate-is-distance, distance-certificate}
use Rattle.distance.proofs.laws.Side.{across-placed}
use Rattle.table_words.specs.Sides.{near_in, across_in, weight_in, marked, marks_by}
use Rattle.table_distances.specs.Certificate.{relaxed_at, precedes_at, preceded_marks, settled_at, certified}
use Rattle.table_check.specs.laws.Marks.{marked-has, has-marked, no-marks, marks-there, marks-from}
use Rattle.table_check.specs.laws.Wiring.{graph_in, sides-are, size_is, near-is, across-is, weight_is}

module _ (v e : ℕ) (edges virtuals : List ℤ) (count : edges_in edges ≡ e) (ok : WellFormed (graph_in v edges virtuals)) (small : v ≤ 1024)
    (a : ℕ) (in-a : a < v) (D : ℕ → ℕ) where
  placed : a < (graph_in v edges virtuals).size
  placed = rw (size_is v e edges virtuals count) in-a

  inside : (s : ℕ) → s < sides (graph_in v edges virtuals) → s < 2 * e
  inside s h = rw (sides-are v e edges virtuals count) at h

  precedes-is : (s : ℕ) → precedes_at edges D s ≡ true → D (near_in edges s) ≡ D (across_in edges s) + weight_in edges s
  unfolding precedes_at
  precedes-is s t = eqb-true (D (near_in edges s)) (D (across_in edges s) + weight_in edges s) t

  precedes-so : (s : ℕ) → D (near_in edges s) ≡ D (across_in edges s) + weight_in edges s → precedes_at edges D s ≡ true
  unfolding precedes_at
  precedes-so s q = eq-eqb (D (near_in edges s)) (D (across_in edges s) + weight_in edges s) q

  -- ---- a row with the certificate

  module _ (capped : (u : ℕ) → D u ≤ unreachable) (outside : (u : ℕ) → v ≤ u → D u ≡ unreachable) (c : certified v e edges a D ≡ true) where
    rest : all_below (relaxed_at edges D) (2 * e) && all_below (settled_at (preceded_marks e edges D) D a) v ≡ true
    unfolding certified
    rest = and_right (eqb (D a) 0) _ c

    own : D a ≡ 0
    unfolding certified
    own = eqb-true (D a) 0 (and_left (eqb (D a) 0) (all_below (relaxed_at edges D) (2 * e) && all_below (settled_at (preceded_marks e edges D) D a) v) c)

    rises : (s : ℕ) → s < 2 * e → D (across_in edges s) ≤ D (near_in edges s) + weight_in edges s
    unfolding relaxed_at
    rises s h =
        leb-true (D (across_in edges s)) (D (near_in edges s) + weight_in edges s)
        (all-below-at (relaxed_at edges D) (2 * e) s
        (and_left (all_below (relaxed_at edges D) (2 * e)) (all_below (settled_at (preceded_marks e edges D) D a) v) rest) h)

    settled : (u : ℕ) → u < v → eqb u a || (leb unreachable (D u) || marked (preceded_marks e edges D) u) ≡ true
    unfolding settled_at
    settled u h = all-below-at (settled_at (preceded_marks e edges D) D a) v u (and_right (all_below (relaxed_at edges D) (2 * e)) _ rest) h

    before : (u : ℕ) → marked (preceded_marks e edges D) u ≡ true → (s : ℕ) × (s < 2 * e) × (near_in edges s ≡ u)
        × (D u ≡ D (across_in edges s) + weight_in edges s)
    unfolding preceded_marks
    before u h =
        marks-from (precedes_at edges D) (near_in edges) (replicate 1024 0) (2 * e) u
        (marked-has (marks_by (precedes_at edges D) (near_in edges) (replicate 1024 0) (2 * e)) u h) (no-marks 1024 u)
        (λ s l t q. (s, l, q, rw q at (precedes-is s t)))

    certificate : DistanceCertificate (graph_in v edges virtuals) a D
    certificate = record {
      self = own;
      capped = capped;
      edge =
          λ s h. let l = inside s h in rw
          (near-is v e edges virtuals count s l, across-is v e edges virtuals count s l, weight_is v e edges virtuals count s l) (rises s l);
      predecessor = λ u q l. by_cases (dec_lt u v) (λ h. found u q l h) (λ h. absurd (omega (arith, outside u (omega arith))));
    }
      where
        found : (u : ℕ) → u ≢ a → D u < unreachable → u < v
            → (s : ℕ) × (s < sides (graph_in v edges virtuals)) × (near (graph_in v edges virtuals) s ≡ u)
            × (D u ≡ D (across (graph_in v edges virtuals) s) + weight (graph_in v edges virtuals) s)
        found u q l h =
            or_cases (eqb u a) (leb unreachable (D u) || marked (preceded_marks e edges D) u) (settled u h)
            (λ t. absurd (q (eqb-true u a t)))
            (λ t. or_cases (leb unreachable (D u)) (marked (preceded_marks e edges D) u) t
            (λ z. absurd (omega (arith, leb-true unreachable (D u) z)))
            (λ z.
            let p = before u z in (
              p.0,
              rw (sides-are v e edges virtuals count) p.1,
              near-is v e edges virtuals count p.0 p.1 ∙ p.2,
              rw (across-is v e edges virtuals count p.0 p.1, weight_is v e edges virtuals count p.0 p.1) p.3,
            )))

    pub certified-shortest : Positive (graph_in v edges virtuals) → (u : ℕ) → D u ≡ dist (graph_in v edges virtuals) a u
    certified-shortest positive = certificate-is-distance (graph_in v edges virtuals) ok a placed positive D certificate

  -- ---- distances have it

  module _ (is : (u : ℕ) → u < v → D u ≡ dist (graph_in v edges virtuals) a u) where
    c : DistanceCertificate (graph_in v edges virtuals) a (dist (graph_in v edges virtuals) a)
    c = distance-certificate (graph_in v edges virtuals) ok a placed

    module _ (s : ℕ) (h : s < 2 * e) where
      h' : s < sides (graph_in v edges virtuals)
      h' = rw (sides-are v e edges virtuals count) h

      near-in : near_in edges s < v
      near-in = omega (arith, ok.placed s h', near-is v e edges virtuals count s h, size_is v e edges virtuals count)

      across-in : across_in edges s < v
      across-in = omega (arith, across-placed (graph_in v edges virtuals) ok s h', across-is v e edges virtuals count s h, size_is v e edges virtuals count)

      relaxed : relaxed_at edges D s ≡ true
      unfolding relaxed_at
      relaxed =
          le-leb (D (across_in edges s)) (D (near_in edges s) + weight_in edges s) (rw (is (across_in edges s) across-in, is (near_in edges s) near-in)
          (rw (near-is v e edges virtuals count s h, across-is v e edges virtuals count s h, weight_is v e edges virtuals count s h) at (c.edge s h')))

    preceded : (u : ℕ) → u < v → u ≢ a → D u < unreachable → marked (preceded_marks e edges D) u ≡ true
    unfolding preceded_marks
    preceded u h q l =
        let p = c.predecessor u q (rw (← is u h) l) in
        let k : p.0 < 2 * e = inside p.0 p.1 in
        let n : near_in edges p.0 ≡ u = sym (near-is v e edges virtuals count p.0 k) ∙ p.2 in
        let t : D (near_in edges p.0) ≡ D (across_in edges p.0) + weight_in edges p.0 =
        rw (n, is u h, is (across_in edges p.0) (across-in p.0 k))
        (rw (across-is v e edges virtuals count p.0 k, weight_is v e edges virtuals count p.0 k) at p.3) in
        has-marked (marks_by (precedes_at edges D) (near_in edges) (replicate 1024 0) (2 * e)) u
        (rw n at (marks-there (precedes_at edges D) (near_in edges) (replicate 1024 0) (2 * e) p.0 k (precedes-so p.0 t)
        (rw (length-replicate {A = ℕ} 1024 0, n) (omega arith))))

    settles : (u : ℕ) → u < v → settled_at (preceded_marks e edges D) D a u ≡ true
    unfolding settled_at
    settles u h =
        by_cases (ℕ_discrete u a) (λ q. or_left _ _ (eq-eqb u a q))
        (λ q. or_right (eqb u a) _
        (by_cases (dec_lt (D u) unreachable) (λ l. or_right (leb unreachable (D u)) _ (preceded u h q l))
        (λ l. or_left _ _ (le-leb unreachable (D u) (omega arith)))))

    pub shortest-certified : certified v e edges a D ≡ true
    unfolding certified
    shortest-certified =
        both (eqb (D a) 0) _ (eq-eqb (D a) 0 (is a in-a ∙ c.self))
        (both (all_below (relaxed_at edges D) (2 * e)) _ (all-below-from (relaxed_at edges D) (2 * e) relaxed)
        (all-below-from (settled_at (preceded_marks e edges D) D a) v settles))
