-- An opening from a sheet: what is refused, and that an accepted one is an opening.
use Prim.Native.Nat.{ℕ, ◌+◌, ◌-◌, ◌*◌, ◌/◌, ◌≤◌, ◌<◌}
use Rattle.std.proofs.Common.{arith, sym, ◌∙◌}
use Rattle.std.proofs.Math.Decide.{dec_lt}
use Rattle.std.specs.Prelude.{◌≡◌, ◌≢◌, Bool, ◌&&◌, not, negsuc, leb, get_or}
use Rattle.std.proofs.Math.Path.{refl, ap}
use Rattle.std.proofs.Math.Bool.{true, false, and-true}
use mathlib.Core.List.{List}
use Rattle.std.proofs.Math.IntN.{ℤ}
use Rattle.std.proofs.Math.Dec.{ltb, eqb}
use Rattle.std.proofs.Math.ListN.{length}
use borrow.Author.Tests.{eqb-true, eq-eqb, ne_eqb, le-leb, leb-true, not-false}
use Rattle.graph.specs.Basic.{all}
use Rattle.graph.specs.Word.{to_nat}
use Rattle.graph.specs.Open.{Edge, weight_limit, sizes_ok, edge_ok, open_refusal}
use Rattle.graph.specs.Opening.{given_at, edge_at, edges_in, edges_from, virtuals_from, fits, OpenCalled}
use Rattle.graph.specs.laws.State.{passed, and_left, and_right}
use Rattle.graph.specs.laws.Members.{both, by-test}
use Rattle.graph.specs.laws.Scan.{list_at, list-from}
use Rattle.open_graph.specs.laws.Open.{given-none, edges-count, edges-get}
use Rattle.open_graph.specs.laws.OpenedBlock.{opened-block}
use Rattle.sheet.specs.Outcome.{Opened, Refused}
use Rattle.sheet.specs.Sheet.{values_from, largest, sheet_ok, vanished, weighed}
use Rattle.sheet.specs.Called.{ends_ok, sheet_refusal, sheet_answer, sheet_edges, SheetCalled}
use Rattle.graph.specs.laws.Chains.{same_test}
use Rattle.sheet.specs.laws.Weight.{at_most}
use Rattle.sheet.specs.laws.Sheet.{Valued, valued, values-count, weighed-length, weighed-end, weighed-edge}

-- ---- what an accepted opening has shown

pub record SheetAccepted (v e n l : ℕ) (edges sheet virtuals : List ℤ) (fit : Bool) : Type 0 where
  pub sizes : sizes_ok v e n l ≡ true
  pub count : edges_in edges ≡ e
  pub lengths : fit ≡ true
  pub values_length : length sheet ≡ e
  pub vertices : all (λ x. ltb x v) (virtuals_from virtuals) ≡ true
  pub words : length edges ≡ 3 * e
  pub ends : all (ends_ok v) (edges_from edges) ≡ true
  pub values-ok : sheet_ok (values_from sheet) ≡ true

module _ (v e n l : ℕ) (edges sheet virtuals : List ℤ) (fit : Bool) where
  pub sheet-accepted : sheet_refusal v e n l edges sheet virtuals fit ≡ 0 → SheetAccepted v e n l edges sheet virtuals fit
  unfolding sheet_refusal
  sheet-accepted h =
      let p₁ = passed (not (sizes_ok v e n l && eqb (edges_in edges) e)) 3 _ h in
      let p₂ = passed (not (fit && eqb (length sheet) e)) 0 _ p₁.1 in
      let p₃ = passed (not (all (λ x. ltb x v) (virtuals_from virtuals))) 2 _ p₂.1 in
      let p₄ = passed (not (eqb (length edges) (3 * e) && all (ends_ok v) (edges_from edges))) 3 _ p₃.1 in
      let p₅ = passed (not (sheet_ok (values_from sheet))) 16 _ p₄.1 in
      let sized = not-false _ p₁.0 in
      let long = not-false _ p₂.0 in
      let ended = not-false _ p₄.0 in
      record {
        sizes = and_left (sizes_ok v e n l) (eqb (edges_in edges) e) sized;
        count = eqb-true _ _ (and_right (sizes_ok v e n l) (eqb (edges_in edges) e) sized);
        lengths = and_left fit (eqb (length sheet) e) long;
        values_length = eqb-true _ _ (and_right fit (eqb (length sheet) e) long);
        vertices = not-false _ p₃.0;
        words = eqb-true _ _ (and_left (eqb (length edges) (3 * e)) (all (ends_ok v) (edges_from edges)) ended);
        ends = and_right (eqb (length edges) (3 * e)) (all (ends_ok v) (edges_from edges)) ended;
        values-ok = not-false _ p₅.0;
      }

-- ---- the edges, as open tests them once they have their weights

edge-parts : (v : ℕ) (x : Edge) → edge_ok v x ≡ (ends_ok v x && leb x.weight weight_limit)
unfolding edge_ok ends_ok
edge-parts v x = refl

-- the ends alone count
ends_same : (v : ℕ) (x y : Edge) → x.left ≡ y.left → x.right ≡ y.right → ends_ok v x ≡ ends_ok v y
unfolding ends_ok
ends_same v x y p q = rw (p, q) refl

module _ (v e : ℕ) (values : List ℕ) (edges : List ℤ) (count : edges_in edges ≡ e) (long : length values ≡ e) (ok : Valued values) where
  abbrev after : List ℤ
  after = weighed values edges

  weighed-count : edges_in after ≡ e
  weighed-count = ap (λ k. (k + 2) / 3) (weighed-length values edges) ∙ count

  -- of an edge with its weight
  weighed-get : (i : ℕ) → i < e → all (edge_ok v) (edges_from after) ≡ true
      → (ends_ok v (edge_at after i) ≡ true) × ((edge_at after i).weight ≤ weight_limit)
  weighed-get i h a =
      let z : ends_ok v (edge_at after i) && leb (edge_at after i).weight weight_limit ≡ true =
      sym (edge-parts v (edge_at after i)) ∙ ap (edge_ok v) (sym (edges-get after i (omega (arith, weighed-count))))
      ∙ list_at (edge_ok v) (edges_from after) i (edge_at after 0) a (omega (arith, edges-count after, weighed-count)) in (
        and_left (ends_ok v (edge_at after i)) (leb (edge_at after i).weight weight_limit) z,
        leb-true _ _ (and_right (ends_ok v (edge_at after i)) (leb (edge_at after i).weight weight_limit) z),
      )

  -- the ends stay, whether the edge has a third word or not
  ends_stay : (i : ℕ) → ends_ok v (edge_at after i) ≡ ends_ok v (edge_at edges i)
  unfolding edge_at given_at
  ends_stay i =
      ends_same v (edge_at after i) (edge_at edges i)
      (ap to_nat (weighed-end values edges (3 * i) (negsuc 0) (λ z. absurd (omega arith))))
      (ap to_nat (weighed-end values edges (3 * i + 1) (negsuc 0) (λ z. absurd (omega arith))))

  -- an edge without a third word would be out of range
  words-there : all (edge_ok v) (edges_from after) ≡ true → length edges ≡ 3 * e
  unfolding edge_at
  words-there a =
      elim (dec_lt (length edges) (3 * e)) [
        | yes h ↦
            let i : ℕ = e - 1 in
            let g : 9223372036854775807 ≡ given_at after (3 * i + 2) =
            given-none after (3 * i + 2) (omega (arith, weighed-length values edges, count)) in
            let w = (weighed-get i (omega arith) a).1 in
            absurd (omega (arith, g, w))
        | no h ↦ omega (arith, count)
      ]

  weight-most : (i : ℕ) → i < e → length edges ≡ 3 * e → (edge_at after i).weight ≤ weight_limit
  weight-most i h k =
      let z = ap (λ (x : Edge). x.weight) (weighed-edge values edges i (omega arith) (omega arith)) in
      rw z (at_most (largest values) ok.some (get_or values i 0) (ok.each i (omega arith)))

  pub ends-weighed : all (edge_ok v) (edges_from after) ≡ (eqb (length edges) (3 * e) && all (ends_ok v) (edges_from edges))
  ends-weighed =
      same_test _ (eqb (length edges) (3 * e) && all (ends_ok v) (edges_from edges))
      (λ a.
      both (eqb (length edges) (3 * e)) (all (ends_ok v) (edges_from edges)) (eq-eqb _ _ (words-there a))
      (list-from (ends_ok v) (edges_from edges) (edge_at edges 0)
      (λ i h.
      let k : i < e = omega (arith, edges-count edges, count) in
      ap (ends_ok v) (edges-get edges i (omega (arith, count))) ∙ sym (ends_stay i) ∙ (weighed-get i k a).0)))
      (λ a.
      let words : length edges ≡ 3 * e = eqb-true _ _ (and_left (eqb (length edges) (3 * e)) (all (ends_ok v) (edges_from edges)) a) in
      let ends = and_right (eqb (length edges) (3 * e)) (all (ends_ok v) (edges_from edges)) a in
      list-from (edge_ok v) (edges_from after) (edge_at after 0)
      (λ i h.
      let k : i < e = omega (arith, edges-count after, weighed-count) in
      let own : ends_ok v (edge_at edges i) ≡ true =
      ap (ends_ok v) (sym (edges-get edges i (omega (arith, count))))
      ∙ list_at (ends_ok v) (edges_from edges) i (edge_at edges 0) ends (omega (arith, edges-count edges, count)) in
      ap (edge_ok v) (edges-get after i (omega (arith, weighed-count))) ∙ edge-parts v (edge_at after i)
      ∙ both (ends_ok v (edge_at after i)) (leb (edge_at after i).weight weight_limit)
      (ends_stay i ∙ own) (le-leb _ _ (weight-most i k words))))

-- ---- refused as open refuses

module _ (v e n l : ℕ) (edges sheet virtuals : List ℤ) (fit : Bool) where
  -- what open says of the weighed edges
  abbrev open_says : ℕ
  open_says = open_refusal v e n l (edges_from (weighed (values_from sheet) edges)) (virtuals_from virtuals) fit

  -- with a sheet of E values that is in range
  pub refused-as-open : length sheet ≡ e → sheet_ok (values_from sheet) ≡ true → sheet_refusal v e n l edges sheet virtuals fit ≡ open_says
  unfolding sheet_refusal open_refusal
  refused-as-open long ok =
      let after : List ℤ = weighed (values_from sheet) edges in
      let given : length (edges_from after) ≡ edges_in edges =
      edges-count after ∙ ap (λ k. (k + 2) / 3) (weighed-length (values_from sheet) edges) in
      let fitted : fit && eqb (length sheet) e ≡ fit = ap (λ t. fit && t) (eq-eqb _ _ long) ∙ and-true fit in
      rw (given, fitted, ok)
      (by-test (sizes_ok v e n l && eqb (edges_in edges) e)
      (λ p.
      let count : edges_in edges ≡ e = eqb-true _ _ (and_right (sizes_ok v e n l) (eqb (edges_in edges) e) p) in
      rw (ends-weighed v e (values_from sheet) edges count (values-count sheet ∙ long) (valued (values_from sheet) ok)) refl)
      (λ p. rw p refl))

  -- so an accepted one is accepted by open
  pub accepted-by-open : sheet_refusal v e n l edges sheet virtuals fit ≡ 0 → open_says ≡ 0
  accepted-by-open h =
      let a = sheet-accepted v e n l edges sheet virtuals fit h in
      sym (refused-as-open a.values_length a.values-ok) ∙ h

-- ---- what the call leaves

module _ (b t : List ℤ) (v e n l : ℕ) (edges sheet virtuals : List ℤ) where
  abbrev refused : ℕ
  refused = sheet_refusal v e n l edges sheet virtuals (fits b t v e n l)

  pub refused-done : (k : ℕ) → k ≡ refused → k ≢ 0 → SheetCalled b t v e n l edges sheet virtuals edges b (Refused k)
  unfolding sheet_answer sheet_edges
  refused-done k p h =
      let z : eqb refused 0 ≡ false = ne_eqb _ _ (λ q. h (p ∙ q)) in
      record { leaves = record { answer = rw z (ap Refused p); edges_are = rw z refl; block = rw z refl } }

  -- open refuses no edges that are weighed
  pub weighed-accepted : (edges' : List ℤ) → refused ≡ 0 → edges' ≡ weighed (values_from sheet) edges
      → open_refusal v e n l (edges_from edges') (virtuals_from virtuals) (fits b t v e n l) ≡ 0
  weighed-accepted edges' z w = rw w (accepted-by-open v e n l edges sheet virtuals (fits b t v e n l) z)

  module _ (edges' b' : List ℤ) where
    -- open was called on the weighed edges
    pub opened-done : (j k : ℕ) → refused ≡ 0 → edges' ≡ weighed (values_from sheet) edges
        → OpenCalled b t v e n l edges' virtuals b' j → k ≡ vanished (values_from sheet)
        → SheetCalled b t v e n l edges sheet virtuals edges' b' (Opened k)
    unfolding sheet_answer sheet_edges
    opened-done j k z w o q =
        let y : eqb refused 0 ≡ true = eq-eqb _ _ z in
        let a = weighed-accepted edges' z w in
        record {
          leaves = record {
            answer = rw y (ap Opened q);
            edges_are = rw y w;
            block = rw y (o.1 ∙ opened-block v e n l (edges_from edges') (virtuals_from virtuals) (fits b t v e n l) b a);
          };
        }
