-- The loop over the vertices: their numbers, and where their sides begin.
use Rattle.std.specs.Prelude.{ℕ, ◌+◌, ◌*◌, ◌≤◌, ◌<◌, ◌≡◌, refl, Bool, false, ◌&&◌, ℤ, leb, length, get_or, set}
use native.Mathlib.Omega.{arith}
use Rattle.std.proofs.Common.{add-one, ◌∙◌, get_or-set_same, get_or-set_other, le-leb, leb-true}
use Rattle.std.proofs.Math.Decide.{ℕ_discrete as dec_eq, dec_le}
use Rattle.std.proofs.Math.Path.{sym}
use Rattle.std.proofs.Math.Bool.{true}
use mathlib.Core.List.{List, [], ◌∷◌}
use Rattle.std.proofs.Math.ListN.{drop, drop_of_length-le}
use Rattle.std.proofs.Math.Seq.{drop-cons}
use Rattle.std.proofs.lemmas.Bool.{lt-leb}
use Rattle.graph.specs.Basic.{all_below}
use Rattle.graph.specs.State.{vertex_count, side_count}
use Rattle.graph.specs.Rows.{offset, first_row}
use Rattle.graph.specs.Layout.{e_of, rows_of, row, rising_to, state_of}
use Rattle.graph.specs.Form.{Laid}
use Rattle.graph.specs.inner.SidesAt.{first_word}
use Rattle.graph.specs.inner.Scans.{vertex_numbers}
use Rattle.graph.specs.laws.Members.{by-test}
use Rattle.graph.specs.laws.Row.{rows-length}
use Rattle.graph.specs.laws.State.{and_left, and_right}
use Rattle.graph.specs.laws.Scan.{and-false, all_more, all-fails}
use Rattle.graph_tests.specs.inner.Walk.{Firsts, rises_from}

-- ---- no fall

-- what begins above m falls
rises-over : (m a : ℕ) (fs : List ℕ) → m < a → leb a (get_or fs 0 m) && rising_to fs m ≡ false
unfolding rising_to
rises-over m a [] h = rw (lt-leb a m h)
rises-over m a (f ∷ fs) h =
    by-test (leb a f)
    (λ e. rw (rises-over m f fs (omega (arith, h, leb-true a f e))) (and-false (leb a f)))
    (λ e. rw e)

-- from a on no fall means that a is no more than the first, and no fall behind it
rises-rising : (m a : ℕ) (fs : List ℕ) → a ≤ m → rises_from a fs m ≡ leb a (get_or fs 0 m) && rising_to fs m
unfolding rises_from rising_to
rises-rising m a [] h = rw (le-leb a m h)
rises-rising m a (f ∷ fs) h =
    elim (dec_le f m) [
      | yes k ↦ rw (le-leb f m k, rises-rising m f fs k) (shorter (leb a f) _)
      | no k ↦ rw (lt-leb f m (omega arith), rises-over m f fs (omega arith)) (none (leb a f) _)
    ]
  where
    shorter : (x y : Bool) → x && true && y ≡ x && y
    shorter true y = refl
    shorter false y = refl

    none : (x y : Bool) → x && false && y ≡ x && false
    none true y = refl
    none false y = refl

rises-all : (m : ℕ) (fs : List ℕ) → rises_from 0 fs m ≡ rising_to fs m
rises-all m fs = rises-rising m 0 fs (omega arith) ∙ rw (le-leb 0 (get_or fs 0 m) (omega arith))

-- ---- the loop

-- the first v vertices passed; a is where the sides of the last of them begin
pub record Begun (b : List ℤ) (v a : ℕ) (next : List ℕ) : Type 0 where
  pub numbers : all_below (vertex_numbers (state_of b)) v ≡ true
  pub rest : rises_from a (drop v (row (rows_of b) first_row)) (2 * e_of b) ≡ rises_from 0 (row (rows_of b) first_row) (2 * e_of b)
  pub firsts : Firsts b v next
  pub low : a ≤ 8192

pub begun-none : (b : List ℤ) (next : List ℕ) → Begun b 0 0 next
unfolding all_below
begun-none b next = record { numbers = refl; rest = refl; firsts = λ v h. absurd (omega arith); low = omega arith }

-- the test of vertex v
abbrev pub passes : List ℤ → ℕ → ℕ → Bool
passes b a v = vertex_numbers (state_of b) v && (leb a (first_word b v) && leb (first_word b v) (side_count (state_of b)))

module _ (b : List ℤ) (q : Laid b) where
  sides-count : side_count (state_of b) ≡ 2 * e_of b
  unfolding Laid
  sides-count = q.counted.sides

  few-sides : side_count (state_of b) ≤ 8192
  unfolding Laid
  few-sides = omega arith

  first-length : length (row (rows_of b) first_row) ≡ vertex_count (state_of b)
  unfolding Laid offset
  first-length = rows-length b first_row (omega arith) ∙ sym q.counted.vertices

  module _ (v a : ℕ) (next : List ℕ) (w : Begun b v a next) (h : v < vertex_count (state_of b)) where
    -- what is left begins with the first of v
    next-first : rises_from a (drop v (row (rows_of b) first_row)) (2 * e_of b)
        ≡ leb a (first_word b v) && leb (first_word b v) (2 * e_of b) && rises_from (first_word b v) (drop (v + 1) (row (rows_of b) first_row)) (2 * e_of b)
    unfolding rises_from
    next-first = rw (add-one, drop-cons (row (rows_of b) first_row) v 0 (omega (arith, h, first-length)))

    pub first-low : passes b a v ≡ true → first_word b v ≤ 8192
    first-low e =
        omega (
          arith,
          few-sides,
          leb-true (first_word b v) (side_count (state_of b))
              (and_right (leb a (first_word b v)) (leb (first_word b v) (side_count (state_of b)))
              (and_right (vertex_numbers (state_of b) v) (leb a (first_word b v) && leb (first_word b v) (side_count (state_of b))) e)),
        )

    pub begun_more : v < length next → passes b a v ≡ true → Begun b (v + 1) (first_word b v) (set next v (first_word b v))
    begun_more k e =
        let t : leb a (first_word b v) && leb (first_word b v) (2 * e_of b) ≡ true =
        rw sides-count at (and_right (vertex_numbers (state_of b) v) (leb a (first_word b v) && leb (first_word b v) (side_count (state_of b))) e) in
        record {
          numbers = all_more _ _ w.numbers (and_left (vertex_numbers (state_of b) v) _ e);
          rest = sym (next-first ∙ rw t) ∙ w.rest;
          firsts = λ u j.
              elim (dec_eq u v) [
                | yes i ↦ rw (i, get_or-set_same next v (first_word b v) 0 k)
                | no i ↦ rw (get_or-set_other next v u (first_word b v) 0 i) (w.firsts u (omega arith))
              ];
          low = first-low e;
        }

    pub begun-fails : passes b a v ≡ false
        → false ≡ all_below (vertex_numbers (state_of b)) (vertex_count (state_of b)) && rising_to (row (rows_of b) first_row) (2 * e_of b)
    begun-fails e =
        by-test (vertex_numbers (state_of b) v)
        (λ t.
        let f : leb a (first_word b v) && leb (first_word b v) (2 * e_of b) ≡ false = rw (t, sides-count) at e in
        let z : rising_to (row (rows_of b) first_row) (2 * e_of b) ≡ false = sym (rises-all (2 * e_of b) (row (rows_of b) first_row)) ∙ sym w.rest ∙ next-first ∙ rw f in
        rw z (sym (and-false (all_below (vertex_numbers (state_of b)) (vertex_count (state_of b))))))
        (λ t. rw (all-fails (vertex_numbers (state_of b)) (vertex_count (state_of b)) v h t))

  -- at the end the firsts do not fall
  pub begun_all : (a : ℕ) (next : List ℕ) → Begun b (vertex_count (state_of b)) a next
      → true ≡ all_below (vertex_numbers (state_of b)) (vertex_count (state_of b)) && rising_to (row (rows_of b) first_row) (2 * e_of b)
  unfolding rises_from
  begun_all a next w =
      let z : drop (vertex_count (state_of b)) (row (rows_of b) first_row) ≡ [] =
      drop_of_length-le (row (rows_of b) first_row) {i = vertex_count (state_of b)} (omega (arith, first-length)) in
      let r : rising_to (row (rows_of b) first_row) (2 * e_of b) ≡ true = sym (rw z at w.rest ∙ rises-all (2 * e_of b) (row (rows_of b) first_row)) in
      rw (w.numbers, r)
