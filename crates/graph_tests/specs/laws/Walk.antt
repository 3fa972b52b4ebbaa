-- The walk over the sides: what a step shows, and what the end of the walk shows.
use Prim.Native.Nat.{ℕ, zero, suc, ◌+◌, ◌-◌, ◌<◌}
use native.Mathlib.Omega.{arith}
use Rattle.std.proofs.Math.Decide.{ℕ_discrete as dec_eq, dec_lt}
use Rattle.std.specs.Prelude.{◌≡◌, true, false, ℤ, ltb, eqb, set}
use Rattle.std.proofs.Math.Path.{refl, sym, ap}
use Rattle.std.proofs.Common.{◌∙◌, ext_get_or}
use mathlib.Core.List.{List, [], ◌∷◌, ◌++◌}
use Rattle.std.proofs.Math.ListN.{length, get_or, length-append, get_or-append}
use Rattle.std.proofs.Math.Seq.{get_or-set_same, get_or-set_other}
use Rattle.std.proofs.lemmas.List.{get_or_at}
use borrow.Author.Tests.{lt-ltb, le-ltb, eq-eqb, ne_eqb, eqb-true}
use Rattle.graph.specs.Basic.{all_below, below, only, same}
use Rattle.graph.specs.State.{vertex_count, side_count, sides_at, end_at}
use Rattle.graph.specs.Open.{sides_of}
use Rattle.graph.specs.Layout.{rows_of, row, state_of}
use Rattle.graph.specs.Form.{Laid}
use Rattle.graph.specs.inner.Counts.{met}
use Rattle.graph.specs.inner.SidesAt.{first_word, last_word, Rising}
use Rattle.graph.specs.inner.Scans.{wired_at}
use Rattle.graph.specs.laws.Members.{by-test}
use Rattle.graph.specs.laws.State.{and_right}
use Rattle.graph.specs.laws.Scan.{all_same, all-fails}
use Rattle.graph.specs.laws.Shape.{same-eq, same_refl}
use Rattle.graph.specs.laws.SidesAt.{Around, around-of, side-entry}
use Rattle.graph.specs.laws.Count.{met_all}
use Rattle.graph.specs.laws.Walk.{met-here, met-elsewhere, met-stays}
use Rattle.graph_tests.specs.inner.Walk.{Firsts, placed_at, place_of, Walking, reached_at}
use Rattle.graph.specs.Rows.{at_row}

-- ---- the sides that were met

-- entry i of the sides that were met at v: a side at v, with i sides at v before it
pub record MetAt (ends : List ℕ) (n v i t : ℕ) : Type 0 where
  pub here : get_or ends t 0 ≡ v
  pub before : t < n
  pub count : length (met ends t v) ≡ i

met_at : (ends : List ℕ) (n v i : ℕ) → i < length (met ends n v) → MetAt ends n v i (get_or (met ends n v) i 0)
unfolding met below only
met_at ends zero v i h = absurd (omega arith)
met_at ends (suc n) v i h =
    elim (dec_eq (get_or ends n 0) v) [
      | yes w ↦
          let z : met ends (suc n) v ≡ met ends n v ++ (n ∷ []) = met-here ends n v w in
          elim (dec_lt i (length (met ends n v))) [
            | yes k ↦
                let ih = met_at ends n v i k in
                rw (z, get_or-append (met ends n v) (n ∷ []) 0 i k)
                (record { here = ih.here; before = omega (arith, ih.before); count = ih.count })
            | no k ↦
                let l : length (met ends n v) ≡ i = omega (arith, rw (z, length-append (met ends n v) (n ∷ [])) at h) in
                rw (z, get_or_at (met ends n v) n [] 0 i l) (record { here = w; before = omega arith; count = l })
          ]
      | no w ↦
          let z : met ends (suc n) v ≡ met ends n v = met-elsewhere ends n v w in
          let ih = met_at ends n v i (rw z at h) in
          rw z (record { here = ih.here; before = omega (arith, ih.before); count = ih.count })
    ]

-- ---- a step

pub walking-none : (b : List ℤ) (next : List ℕ) → Firsts b (vertex_count (state_of b)) next → Walking b 0 next
unfolding met below only
walking-none b next f = record { places = λ v h. f v h ∙ omega arith; stand = λ t h. absurd (omega arith) }

module _ (b : List ℤ) (s : ℕ) (next : List ℕ) (w : Walking b s next) (h : end_at (state_of b) s < vertex_count (state_of b)) where
  place-now : get_or next (end_at (state_of b) s) 0 ≡ place_of b s
  place-now = w.places (end_at (state_of b) s) h

  -- side s stands at its place
  pub walking-more : end_at (state_of b) s < length next → placed_at b (get_or next (end_at (state_of b) s) 0) s ≡ true
      → Walking b (s + 1) (set next (end_at (state_of b) s) (get_or next (end_at (state_of b) s) 0 + 1))
  unfolding placed_at
  walking-more k e = record { places = moved; stand = stood }
    where
      moved : (v : ℕ) → v < vertex_count (state_of b)
          → get_or (set next (end_at (state_of b) s) (get_or next (end_at (state_of b) s) 0 + 1)) v 0 ≡ first_word b v + length (met (state_of b).graph.end (s + 1) v)
      moved v j =
          let one : s + 1 ≡ suc s = omega arith in
          rw one
          (elim (dec_eq v (end_at (state_of b) s)) [
            | yes q ↦
                rw (
                  q,
                  get_or-set_same next (end_at (state_of b) s) (get_or next (end_at (state_of b) s) 0 + 1) 0 k,
                  met-here (state_of b).graph.end s (end_at (state_of b) s) refl,
                  length-append (met (state_of b).graph.end s (end_at (state_of b) s)) (s ∷ []),
                )
                (omega (arith, place-now))
            | no q ↦
                rw (
                  get_or-set_other next (end_at (state_of b) s) v (get_or next (end_at (state_of b) s) 0 + 1) 0 q,
                  met-elsewhere (state_of b).graph.end s v (λ z. q (sym z)),
                )
                (w.places v j)
          ])

      stood : (t : ℕ) → t < s + 1 → get_or (row (rows_of b) at_row) (place_of b t) 0 ≡ t
      stood t j =
          elim (dec_eq t s) [
            | yes q ↦
                rw (q, ← place-now)
                (eqb-true (get_or (row (rows_of b) at_row) (get_or next (end_at (state_of b) s) 0) 0) s
                (and_right (ltb (get_or next (end_at (state_of b) s) 0) (side_count (state_of b)))
                (eqb (get_or (row (rows_of b) at_row) (get_or next (end_at (state_of b) s) 0) 0) s) e))
            | no q ↦ w.stand t (omega arith)
          ]

  -- where the vertex has the right sides, side s stands at its place
  placed-right : Laid b → Rising b → s < side_count (state_of b)
      → sides_at (state_of b) (end_at (state_of b) s) ≡ sides_of (state_of b).graph.end (end_at (state_of b) s)
      → placed_at b (get_or next (end_at (state_of b) s) 0) s ≡ true
  unfolding placed_at
  placed-right q r k e =
      let ends : List ℕ = (state_of b).graph.end in
      let v : ℕ = end_at (state_of b) s in
      let i : ℕ = length (met ends s v) in
      let a : Around b v = around-of b v q r h in
      let m = met-stays ends s v (length ends) refl k in
      let l : sides_at (state_of b) v ≡ met ends (length ends) v = e ∙ sym (met_all ends v) in
      let u : i < last_word b v - first_word b v = omega (arith, m.0, ap length l, a.size) in
      let z : get_or (row (rows_of b) at_row) (first_word b v + i) 0 ≡ s = side-entry b v i a u ∙ ap (λ x. get_or x i 0) l ∙ m.1 in
      rw (place-now, lt-ltb (place_of b s) (side_count (state_of b)) (omega (arith, u, a.within)), eq-eqb (get_or (row (rows_of b) at_row) (place_of b s) 0) s z)

  -- where it does not, some vertex has not the right sides
  pub walking-fails : Laid b → Rising b → s < side_count (state_of b) → placed_at b (get_or next (end_at (state_of b) s) 0) s ≡ false
      → all_below (wired_at (state_of b)) (vertex_count (state_of b)) ≡ false
  unfolding wired_at
  walking-fails q r k e =
      all-fails (wired_at (state_of b)) (vertex_count (state_of b)) (end_at (state_of b) s) h
      (by-test (same (sides_at (state_of b) (end_at (state_of b) s)) (sides_of (state_of b).graph.end (end_at (state_of b) s)))
      (λ t. t ∙ sym (placed-right q r k (same-eq _ _ t)) ∙ e)
      (λ t. t))

-- ---- the end

-- where the sides of a vertex end
pub reached-before : (b : List ℤ) (next : List ℕ) (v : ℕ) → v + 1 < vertex_count (state_of b) → reached_at b next v ≡ eqb (first_word b (v + 1)) (get_or next v 0)
unfolding reached_at last_word
reached-before b next v h = rw (lt-ltb (v + 1) (vertex_count (state_of b)) h)

pub reached-last : (b : List ℤ) (next : List ℕ) (v : ℕ) → v + 1 ≡ vertex_count (state_of b) → reached_at b next v ≡ eqb (side_count (state_of b)) (get_or next v 0)
unfolding reached_at last_word
reached-last b next v h = rw (le-ltb (v + 1) (vertex_count (state_of b)) (omega (arith, h)))

not_same : (xs ys : List ℕ) → (length xs ≡ length ys → ⊥) → same xs ys ≡ false
not_same xs ys n = by-test (same xs ys) (λ e. absurd (n (ap length (same-eq xs ys e)))) (λ e. e)

module _ (b : List ℤ) (next : List ℕ) (q : Laid b) (r : Rising b) (w : Walking b (side_count (state_of b)) next) where
  -- a vertex whose next place is the end of its sides has the right ones
  right-sides : (v : ℕ) → v < vertex_count (state_of b) → length (sides_at (state_of b) v) ≡ length (sides_of (state_of b).graph.end v)
      → sides_at (state_of b) v ≡ sides_of (state_of b).graph.end v
  right-sides v h e =
      ext_get_or 0 (sides_at (state_of b) v) (sides_of (state_of b).graph.end v) e
      (λ i k.
      let ends : List ℕ = (state_of b).graph.end in
      let a : Around b v = around-of b v q r h in
      let t : ℕ = get_or (sides_of ends v) i 0 in
      let m : MetAt ends (length ends) v i t = rw (met_all ends v) at (met_at ends (length ends) v i (rw (met_all ends v) (omega (arith, k, e)))) in
      let z : get_or (row (rows_of b) at_row) (first_word b v + i) 0 ≡ t = rw (m.here, m.count) at (w.stand t m.before) in
      sym (side-entry b v i a (omega (arith, k, a.size))) ∙ z)

  reached-wired : (v : ℕ) → v < vertex_count (state_of b) → reached_at b next v ≡ wired_at (state_of b) v
  unfolding reached_at wired_at
  reached-wired v h =
      let ends : List ℕ = (state_of b).graph.end in
      let a : Around b v = around-of b v q r h in
      let p : get_or next v 0 ≡ first_word b v + length (sides_of ends v) = w.places v h ∙ ap (λ x. first_word b v + length x) (met_all ends v) in
      elim (dec_eq (last_word b v) (get_or next v 0)) [
        | yes e ↦
            rw (eq-eqb _ _ e, right-sides v h (omega (arith, e, p, a.size, a.rising)))
            (sym (same_refl (sides_of ends v)))
        | no e ↦ rw (ne_eqb _ _ e) (sym (not_same (sides_at (state_of b) v) (sides_of ends v) (λ z. e (omega (arith, z, p, a.size, a.rising)))))
      ]

  -- whether the places have reached the ends of their stretches says whether all is wired
  pub walking-all : all_below (reached_at b next) (vertex_count (state_of b)) ≡ all_below (wired_at (state_of b)) (vertex_count (state_of b))
  walking-all = all_same (reached_at b next) (wired_at (state_of b)) (vertex_count (state_of b)) reached-wired
