-- An opening from a sheet that was accepted: it is an opening, and its weights are those of the sheet.
use Rattle.std.specs.Prelude.{ℕ, ◌<◌, ◌↔◌, Bool, List, ℤ, get_or}
use Rattle.std.proofs.Common.{arith, ap, ◌∙◌}
use Rattle.std.proofs.Math.Decide.{dec_lt}
use Rattle.std.proofs.Math.Path.{◌≡◌, sym}
use Rattle.std.proofs.Math.Bool.{true, false}
use Rattle.std.proofs.Math.Dec.{ltb, eqb}
use Rattle.std.proofs.Math.ListN.{length}
use borrow.Author.Tests.{eqb-true, eqb-false, eq-eqb, ne_eqb, ltb-true, lt-ltb}
use Rattle.graph.specs.Basic.{all, only}
use Rattle.graph.specs.Open.{Edge, open_refusal}
use Rattle.graph.specs.Opening.{edge_at, edges_in, edges_from, virtuals_from, fits, OpenCalled}
use Rattle.graph.specs.laws.Members.{by-test}
use Rattle.graph.specs.laws.Scan.{and-false, list_at, list-from}
use Rattle.open_graph.specs.laws.Open.{edges-count, edges-get}
use Rattle.open_graph.specs.laws.OpenedBlock.{opened-block}
use Rattle.sheet.specs.Outcome.{Opened, Refused}
use Rattle.sheet.specs.Weight.{scaled}
use Rattle.sheet.specs.Sheet.{values_from, largest, vanishes, vanished, sheet_weight, weighed, with_weight}
use Rattle.sheet.specs.Called.{sheet_refusal, sheet_answer, sheet_edges, SheetLeaves, SheetCalled}
use Rattle.sheet.specs.laws.Weight.{zero-exactly}
use Rattle.sheet.specs.laws.Sheet.{valued, values-count, weighed-length, weighed-edge}
use Rattle.sheet.specs.laws.Count.{none_passes, all-fail}
use Rattle.sheet.specs.laws.Called.{SheetAccepted, sheet-accepted, accepted-by-open}

-- ---- the refusal, by the answer

module _ {r v e n l : ℕ} {b edges sheet virtuals edges' b' : List ℤ} {k : ℕ} where
  pub opened-zero : SheetLeaves r v e n l b edges sheet virtuals edges' b' (Opened k) → (r ≡ 0) × (k ≡ vanished (values_from sheet))
  unfolding sheet_answer
  opened-zero p =
      by-test (eqb r 0)
      (λ t. let z : Opened k ≡ Opened (vanished (values_from sheet)) = rw t at p.answer in (eqb-true r 0 t, cc))
      (λ t.
      let z : Opened k ≡ Refused r = rw t at p.answer in
      let y : ◌≡◌ {A = ℕ} 0 1 = cc in
      absurd (omega arith))

  pub refused-number : SheetLeaves r v e n l b edges sheet virtuals edges' b' (Refused k) → (k ≡ r) × (eqb r 0 ≡ false)
  unfolding sheet_answer
  refused-number p =
      by-test (eqb r 0)
      (λ t.
      let z : Refused k ≡ Opened (vanished (values_from sheet)) = rw t at p.answer in
      let y : ◌≡◌ {A = ℕ} 0 1 = cc in
      absurd (omega arith))
      (λ t. let z : Refused k ≡ Refused r = rw t at p.answer in (cc, t))

  -- a refused one leaves edges and block
  pub refused-keeps : SheetLeaves r v e n l b edges sheet virtuals edges' b' (Refused k) → (edges' ≡ edges) × (b' ≡ b)
  unfolding sheet_edges
  refused-keeps p = let z = (refused-number p).1 in (rw z at p.edges_are, rw z at p.block)

-- ---- an accepted one

module _ {b t : List ℤ} {v e n l : ℕ} {edges sheet virtuals edges' b' : List ℤ} {k : ℕ}
    (p : SheetCalled b t v e n l edges sheet virtuals edges' b' (Opened k)) where
  abbrev fit : Bool
  fit = fits b t v e n l

  abbrev values : List ℕ
  values = values_from sheet

  none-refused : sheet_refusal v e n l edges sheet virtuals fit ≡ 0
  none-refused = (opened-zero p.leaves).0

  passed : SheetAccepted v e n l edges sheet virtuals fit
  passed = sheet-accepted v e n l edges sheet virtuals fit none-refused

  edges-weighed : edges' ≡ weighed values edges
  unfolding sheet_edges
  edges-weighed = rw (eq-eqb _ _ none-refused) at p.leaves.edges_are

  -- it is an opening on the words that it leaves
  pub opens : OpenCalled b t v e n l edges' virtuals b' 0
  opens =
      let es : List Edge = edges_from edges' in
      let vs : List ℕ = virtuals_from virtuals in
      let a : open_refusal v e n l es vs fit ≡ 0 = rw edges-weighed (accepted-by-open v e n l edges sheet virtuals fit none-refused) in
      (sym a, rw (eq-eqb _ _ none-refused) at p.leaves.block ∙ sym (opened-block v e n l es vs fit b a))

  pub counts : k ≡ vanished values
  counts = (opened-zero p.leaves).1

  pub edge-weighed : (i : ℕ) → i < e → edge_at edges' i ≡ with_weight (edge_at edges i) (sheet_weight values i)
  edge-weighed i h =
      let a = passed in
      rw edges-weighed (weighed-edge values edges i (rw (values-count sheet) (omega arith)) (omega arith))

  -- ---- which weights are positive

  abbrev m : ℕ
  m = largest values

  some : 0 < m
  some = (valued values passed.values-ok).some

  count-values : length values ≡ e
  count-values = values-count sheet ∙ passed.values_length

  count-edges : edges_in edges' ≡ e
  count-edges = rw edges-weighed (omega (arith, weighed-length values edges, passed.count))

  weight-at : (i : ℕ) → i < e → (get_or (edges_from edges') i (edge_at edges' 0)).weight ≡ scaled m (get_or values i 0)
  weight-at i h = ap (λ (x : Edge). x.weight) (edges-get edges' i (omega (arith, count-edges)) ∙ edge-weighed i h)

  -- the test of each edge, and of each value
  abbrev heavy : Edge → Bool
  heavy x = ltb 0 x.weight

  abbrev above : ℕ → Bool
  above s = ltb 0 s

  -- a positive weight is that of a positive value, which is not counted
  from-positive : (s : ℕ) → 0 < scaled m s → (0 < s) × (vanishes m s ≡ false)
  unfolding vanishes
  from-positive s h =
      let z : eqb (scaled m s) 0 ≡ false = ne_eqb (scaled m s) 0 (λ q. omega arith) in (
        elim (dec_lt 0 s) [ yes q ↦ q | no q ↦ absurd (let w = (zero-exactly m some s).1 (omega (arith, some)) in omega arith) ],
        rw z (and-false (ltb 0 s)),
      )

  -- and a positive value that is not counted has one
  to-positive : (s : ℕ) → 0 < s → vanishes m s ≡ false → 0 < scaled m s
  unfolding vanishes
  to-positive s h q =
      let z : eqb (scaled m s) 0 ≡ false = rw (lt-ltb 0 s h) at q in
      let w = eqb-false (scaled m s) 0 z in
      omega (arith, w)

  pub positive : (all heavy (edges_from edges') ≡ true) ↔ ((k ≡ 0) × (all above values ≡ true))
  unfolding vanished
  positive = (
    λ a.
        let each : (i : ℕ) → i < length values → 0 < scaled m (get_or values i 0) =
        λ i h.
        let c : i < e = omega (arith, count-values) in
        let u : ltb 0 (get_or (edges_from edges') i (edge_at edges' 0)).weight ≡ true =
        list_at heavy (edges_from edges') i (edge_at edges' 0) a (omega (arith, edges-count edges', count-edges)) in
        ltb-true 0 (scaled m (get_or values i 0)) (rw (weight-at i c) at u) in (
          counts ∙ all-fail (vanishes m) values (λ i h. (from-positive (get_or values i 0) (each i h)).1),
          list-from above values 0 (λ i h. lt-ltb 0 _ (from-positive (get_or values i 0) (each i h)).0),
        ),
    λ c.
        let none : length (only (vanishes m) values) ≡ 0 = sym counts ∙ c.0 in
        list-from heavy (edges_from edges') (edge_at edges' 0)
        (λ i h.
        let d : i < e = omega (arith, edges-count edges', count-edges) in
        let j : i < length values = omega (arith, count-values) in
        rw (weight-at i d)
        (lt-ltb 0 _
        (to-positive (get_or values i 0) (ltb-true 0 _ (list_at above values i 0 c.1 j)) (none_passes (vanishes m) values i none j)))),
  )
