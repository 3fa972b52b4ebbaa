-- The opening by what the memory holds is the opening by what was gathered.
use Prim.Native.Nat.{ℕ, ◌+◌, ◌-◌, ◌*◌, ◌≤◌, ◌<◌}
use Rattle.std.proofs.Common.{arith, ◌∙◌, length-take-le, take_at}
use Rattle.std.specs.Prelude.{◌≡◌, ◌&&◌, ◌||◌, List, ◌++◌, map, ℤ, negsuc, eqb, length, take, drop, if◌then◌else◌}
use Rattle.std.proofs.Math.Path.{sym, ap}
use Rattle.std.proofs.Math.Bool.{true, false}
use Rattle.std.proofs.Math.IntN.{pos}
use Rattle.std.proofs.Math.Dec.{ltb}
use Rattle.std.proofs.Math.Seq.{get_or-take, ext_get_or}
use borrow.Author.Tests.{eqb-true, eqb-false, eq-eqb, ne_eqb, ltb-false, not-true, not-false}
use Rattle.graph.specs.Basic.{all, below}
use Rattle.graph.specs.Open.{sizes_ok, flag_in, graph_of, opened, open_refusal}
use Rattle.graph.specs.Opening.{given_at, edge_at, edges_in, edges_from, virtuals_from, opened_block, opened_words, fits}
use Rattle.graph.specs.Layout.{block_length, scratch_length}
use Rattle.graph.specs.laws.State.{and_left, and_right}
use Rattle.graph.specs.laws.Members.{by-test, both, or-neither-left, or-neither-right}
use Rattle.open_graph.specs.laws.Open.{edges-count, edges-get, refusal-links}
use Rattle.open_graph.specs.inner.Refusals.{refusal_of_lengths, refusal_of_virtuals}
use Rattle.graph.specs.laws.Opened.{get_d_any, accepted}
use Rattle.open_graph.specs.laws.OpenedBlock.{opened-length, opened-state, opened-formed, opened-block}
use Rattle.graph.specs.laws.Table.{table_eq}
use Rattle.records.specs.Run.{Gathered, too_large, run_refusal}
use Rattle.records.specs.declared.setup.Setup.{Setup}
use Rattle.records.specs.Setup.{stored_of, no_edge, SetupHolds}
use Rattle.records.specs.Opening.{large_sizes, complete, given_edges, open_into, block_opened, open_code, open_block, OpenedAs}

-- sizes that are not above the program's
pub record Small (s : Setup) : Type 0 where
  pub v : s.v ≤ 64
  pub e : s.e ≤ 128
  pub n : s.n ≤ 32
  pub l : s.l ≤ 2000

pub small_of : (s : Setup) → large_sizes s ≡ false → Small s
unfolding large_sizes
small_of s h =
    let ven : (ltb 64 s.v || ltb 128 s.e || ltb 32 s.n) ≡ false =
    or-neither-left (ltb 64 s.v || ltb 128 s.e || ltb 32 s.n) (ltb 2000 s.l) h in
    let ve : (ltb 64 s.v || ltb 128 s.e) ≡ false = or-neither-left (ltb 64 s.v || ltb 128 s.e) (ltb 32 s.n) ven in
    record {
      v = ltb-false 64 s.v (or-neither-left (ltb 64 s.v) (ltb 128 s.e) ve);
      e = ltb-false 128 s.e (or-neither-right (ltb 64 s.v) (ltb 128 s.e) ve);
      n = ltb-false 32 s.n (or-neither-right (ltb 64 s.v || ltb 128 s.e) (ltb 32 s.n) ven);
      l = ltb-false 2000 s.l (or-neither-right (ltb 64 s.v || ltb 128 s.e || ltb 32 s.n) (ltb 2000 s.l) h);
    }

pub complete-sizes : (s : Setup) → complete s ≡ true → sizes_ok s.v s.e s.n s.l ≡ true
unfolding complete
complete-sizes s h = and_left (sizes_ok s.v s.e s.n s.l) (eqb s.edges s.e) h

pub complete-count : (s : Setup) → complete s ≡ true → s.edges ≡ s.e
unfolding complete
complete-count s h = eqb-true s.edges s.e (and_right (sizes_ok s.v s.e s.n s.l) (eqb s.edges s.e) h)

-- parts of the right lengths fit
pub parts-fit : (b t : List ℤ) (v e n l : ℕ) → length b ≡ block_length v e n l → length t ≡ scratch_length v e → fits b t v e n l ≡ true
unfolding fits
parts-fit b t v e n l p q =
    both (eqb (length b) (block_length v e n l)) (eqb (length t) (scratch_length v e))
    (eq-eqb (length b) (block_length v e n l) p) (eq-eqb (length t) (scratch_length v e) q)

-- ---- the refusals, link by link

module _ (s : Setup) (edges virtuals b : List ℤ) where
  pub open-large : large_sizes s ≡ true → (4 ≡ open_code s edges virtuals) × (b ≡ open_block s edges virtuals b)
  unfolding open_code open_block
  open-large h = (rw h, rw h)

  pub open-incomplete : large_sizes s ≡ false → complete s ≡ false → (4 ≡ open_code s edges virtuals) × (b ≡ open_block s edges virtuals b)
  unfolding open_code open_block
  open-incomplete h k = (rw (h, k), rw (h, k))

  pub open-bad : large_sizes s ≡ false → complete s ≡ true → s.bad ≡ true → (3 ≡ open_code s edges virtuals) × (b ≡ open_block s edges virtuals b)
  unfolding open_code open_block
  open-bad h k i = (rw (h, k, i), rw (h, k, i))

  pub open-stored : large_sizes s ≡ false → complete s ≡ true → s.bad ≡ false
      → (open_into s edges virtuals ≡ open_code s edges virtuals)
      × (block_opened s edges virtuals b ≡ open_block s edges virtuals b)
  unfolding open_code open_block
  open-stored h k i = (rw (h, k, i), rw (h, k, i))

-- ---- the opening of parts that have their lengths

module _ (s : Setup) (edges virtuals block scratch : List ℤ) (m q p k : ℕ)
    (em : m ≡ block_length s.v s.e s.n s.l) (eq : q ≡ scratch_length s.v s.e) (ep : p ≡ 3 * s.e) (ek : k ≡ s.virtuals)
    (hm : m ≤ length block) (hq : q ≤ length scratch) where
  parts : fits (take m block) (take q scratch) s.v s.e s.n s.l ≡ true
  parts = parts-fit (take m block) (take q scratch) s.v s.e s.n s.l (length-take-le m block hm ∙ em) (length-take-le q scratch hq ∙ eq)

  pub opens-code : open_refusal s.v s.e s.n s.l (edges_from (take p edges)) (virtuals_from (take k virtuals))
      (fits (take m block) (take q scratch) s.v s.e s.n s.l)
      ≡ open_into s edges virtuals
  unfolding open_into given_edges
  opens-code = rw (parts, ep, ek)

  pub opens-block : opened_block s.v s.e s.n s.l (edges_from (take p edges)) (virtuals_from (take k virtuals))
      (fits (take m block) (take q scratch) s.v s.e s.n s.l) (take m block)
      ++ drop m block
      ≡ block_opened s edges virtuals block
  unfolding block_opened given_edges
  opens-block = rw (parts, ep, ek, em)

-- ---- what the memory holds is what was gathered

module _ (s : Setup) (edges virtuals : List ℤ) (g : Gathered) (p : SetupHolds s edges virtuals g) where
  large-same : large_sizes s ≡ too_large g
  unfolding large_sizes too_large
  large-same = rw (p.vertices, p.edge-size, p.node-limit, p.store-limit)

  count_same : s.e ≤ 128 → eqb s.edges s.e ≡ eqb (length g.edges) g.e
  count_same h =
      by-test (eqb (length g.edges) g.e)
      (λ t. let q : length g.edges ≡ g.e = eqb-true (length g.edges) g.e t in rw t (eq-eqb s.edges s.e (omega (arith, p.count, p.edge-size))))
      (λ t. let q : length g.edges ≡ g.e → ⊥ = eqb-false (length g.edges) g.e t in
      rw t (ne_eqb s.edges s.e (λ r. q (omega (arith, p.count, p.edge-size)))))

  complete-same : s.e ≤ 128 → complete s ≡ (sizes_ok g.v g.e g.n g.l && eqb (length g.edges) g.e)
  unfolding complete
  complete-same h = rw (count_same h, p.vertices, p.edge-size, p.node-limit, p.store-limit)

  module _ (size : 384 ≤ length edges) (small : large_sizes s ≡ false) (whole : complete s ≡ true) where
    -- as many edges were gathered
    edge-count : length g.edges ≡ s.e
    edge-count = omega (arith, (small_of s small).e, complete-count s whole, p.count)

    part_length : length (take (3 * s.e) edges) ≡ 3 * s.e
    part_length = length-take-le (3 * s.e) edges (omega (arith, (small_of s small).e))

    part-edges : edges_in (take (3 * s.e) edges) ≡ s.e
    part-edges = rw part_length (omega arith)

    part_edge : (i : ℕ) → i < s.e → edge_at (take (3 * s.e) edges) i ≡ edge_at edges i
    unfolding edge_at given_at
    part_edge i h =
        rw (
          get_or-take (3 * s.e) edges (3 * i) (negsuc 0) (omega arith),
          get_or-take (3 * s.e) edges (3 * i + 1) (negsuc 0) (omega arith),
          get_or-take (3 * s.e) edges (3 * i + 2) (negsuc 0) (omega arith),
        )

    -- the words give the edges
    pub edges-held : given_edges s edges ≡ g.edges
    unfolding given_edges
    edges-held =
        ext_get_or no_edge (edges_from (take (3 * s.e) edges)) g.edges (edges-count (take (3 * s.e) edges) ∙ part-edges ∙ sym edge-count)
        (λ i h.
        let n : i < edges_in (take (3 * s.e) edges) = rw (edges-count (take (3 * s.e) edges)) at h in
        let k : i < s.e = rw part-edges at n in
        get_d_any (edges_from (take (3 * s.e) edges)) i no_edge (edge_at (take (3 * s.e) edges) 0) h
        ∙ edges-get (take (3 * s.e) edges) i n
        ∙ part_edge i k
        ∙ p.edge i (omega (arith, edge-count)) (omega (arith, (small_of s small).e)))

    -- the flags of the vertices are those of the virtual vertices that were gathered
    flags-held : map (flag_in (stored_of s virtuals)) (below s.v) ≡ map (flag_in g.virtuals) (below s.v)
    unfolding flag_in
    flags-held =
        table_eq 0 (flag_in (stored_of s virtuals)) (flag_in g.virtuals) s.v
        (λ i h. ap (λ t. if t then 1 else 0) (p.same i (omega (arith, (small_of s small).v)) (omega (arith, p.vertices))))

    pub opened-held : opened s.v s.n s.l (given_edges s edges) (stored_of s virtuals) ≡ opened g.v g.n g.l g.edges g.virtuals
    unfolding opened graph_of
    opened-held = rw (flags-held, edges-held, p.vertices, p.node-limit, p.store-limit)

  -- ---- the refusals

  refusal-held : 384 ≤ length edges → large_sizes s ≡ false → complete s ≡ true → s.bad ≡ false
      → open_into s edges virtuals ≡ open_refusal g.v g.e g.n g.l g.edges g.virtuals true
  unfolding open_into refusal_of_lengths refusal_of_virtuals
  refusal-held size small whole fine =
      let good : all (λ x. ltb x g.v) g.virtuals ≡ true = not-false (all (λ x. ltb x g.v) g.virtuals) (sym p.bad ∙ fine) in
      rw (
        edges-held size small whole,
        p.vertices,
        p.edge-size,
        p.node-limit,
        p.store-limit,
        refusal-links g.v g.e g.n g.l g.edges (stored_of s virtuals) true,
        refusal-links g.v g.e g.n g.l g.edges g.virtuals true,
        p.inside,
        good,
      )

  refusal-out : large_sizes s ≡ false → complete s ≡ true → s.bad ≡ true → 3 ≡ open_refusal g.v g.e g.n g.l g.edges g.virtuals true
  unfolding refusal_of_lengths refusal_of_virtuals
  refusal-out small whole out =
      let bad : all (λ x. ltb x g.v) g.virtuals ≡ false = not-true (all (λ x. ltb x g.v) g.virtuals) (sym p.bad ∙ out) in
      rw (refusal-links g.v g.e g.n g.l g.edges g.virtuals true, ← complete-same (small_of s small).e, whole, bad)

  refusal-short : large_sizes s ≡ false → complete s ≡ false → 4 ≡ open_refusal g.v g.e g.n g.l g.edges g.virtuals true
  unfolding refusal_of_lengths refusal_of_virtuals
  refusal-short small short = rw (refusal-links g.v g.e g.n g.l g.edges g.virtuals true, ← complete-same (small_of s small).e, short)

  run-large : large_sizes s ≡ true → run_refusal g ≡ 4
  unfolding run_refusal
  run-large h = rw (← large-same, h)

  run_small : large_sizes s ≡ false → run_refusal g ≡ open_refusal g.v g.e g.n g.l g.edges g.virtuals true
  unfolding run_refusal
  run_small h = rw (← large-same, h)

  -- the opening refuses what the definition refuses
  pub code-held : 384 ≤ length edges → open_code s edges virtuals ≡ run_refusal g
  code-held size =
      by-test (large_sizes s)
      (λ h. sym (open-large s edges virtuals edges h).0 ∙ sym (run-large h))
      (λ h.
      by-test (complete s)
      (λ k.
      by-test s.bad
      (λ i. sym (open-bad s edges virtuals edges h k i).0 ∙ refusal-out h k i ∙ sym (run_small h))
      (λ i. sym (open-stored s edges virtuals edges h k i).0 ∙ refusal-held size h k i ∙ sym (run_small h)))
      (λ k. sym (open-incomplete s edges virtuals edges h k).0 ∙ refusal-short h k ∙ sym (run_small h)))

  -- ---- the opened state

  block-opened : large_sizes s ≡ false → complete s ≡ true → s.bad ≡ false → open_into s edges virtuals ≡ 0 → (b : List ℤ)
      → take (block_length s.v s.e s.n s.l) (open_block s edges virtuals b)
      ≡ map pos (opened_words s.v s.e s.n s.l (given_edges s edges) (stored_of s virtuals))
  unfolding block_opened open_into
  block-opened small whole fine code b =
      let m : ℕ = block_length s.v s.e s.n s.l in
      let a = accepted s.v s.e s.n s.l (given_edges s edges) (stored_of s virtuals) true code in
      rw (
        ← (open-stored s edges virtuals b small whole fine).1,
        opened-block s.v s.e s.n s.l (given_edges s edges) (stored_of s virtuals) true (take m b) code,
      )
      (take_at (map pos (opened_words s.v s.e s.n s.l (given_edges s edges) (stored_of s virtuals)))
      (drop m b) m (opened-length s.v s.e s.n s.l (given_edges s edges) (stored_of s virtuals) true a))

  state-held : 384 ≤ length edges → large_sizes s ≡ false → complete s ≡ true → s.bad ≡ false
      → open_into s edges virtuals ≡ 0 → (b : List ℤ)
      → OpenedAs (take (block_length s.v s.e s.n s.l) (open_block s edges virtuals b)) g
  unfolding open_into
  state-held size small whole fine code b =
      let a = accepted s.v s.e s.n s.l (given_edges s edges) (stored_of s virtuals) true code in
      rw (block-opened small whole fine code b)
      (record {
        formed = opened-formed s.v s.e s.n s.l (given_edges s edges) (stored_of s virtuals) true a;
        state = opened-state s.v s.e s.n s.l (given_edges s edges) (stored_of s virtuals) true a ∙ opened-held size small whole;
      })

  -- where nothing refuses, the start of the block holds the opened graph
  pub block_held : 384 ≤ length edges → open_code s edges virtuals ≡ 0 → (b : List ℤ)
      → OpenedAs (take (block_length s.v s.e s.n s.l) (open_block s edges virtuals b)) g
  block_held size code b =
      by-test (large_sizes s)
      (λ h. absurd (omega (arith, (open-large s edges virtuals edges h).0, code)))
      (λ h.
      by-test (complete s)
      (λ k.
      by-test s.bad
      (λ i. absurd (omega (arith, (open-bad s edges virtuals edges h k i).0, code)))
      (λ i. state-held size h k i ((open-stored s edges virtuals edges h k i).0 ∙ code) b))
      (λ k. absurd (omega (arith, (open-incomplete s edges virtuals edges h k).0, code))))
