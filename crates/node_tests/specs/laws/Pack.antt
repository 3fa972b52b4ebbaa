-- The test that the nodes' lists stand one after another within the store: its loop, and what it shows.
use Rattle.std.specs.Prelude.{ℕ, ◌+◌, ◌≤◌, ◌<◌, ◌≡◌, refl, Bool, true, false, ◌&&◌, ℤ, leb, eqb, length, take}
use Rattle.std.proofs.Common.{arith, ◌∙◌, get_or-take, leb-true, eqb-true}
use Rattle.std.proofs.Math.Numerals.{add-one}
use Rattle.std.proofs.Math.Path.{sym}
use mathlib.Core.List.{List, [], ◌∷◌}
use Rattle.std.proofs.Math.ListN.{get_or, drop, drop_of_length-le}
use Rattle.std.proofs.Math.Seq.{drop-cons, length-take-le}
use Rattle.graph.specs.State.{node_count}
use Rattle.graph.specs.Rows.{offset, header_row, start_row, boundary_length_row, overgrown_length_row}
use Rattle.graph.specs.laws.State.{and_left, and_right}
use Rattle.graph.specs.Layout.{n_of, l_of, count_of, rows_of, row, fits_at, packed_from, packed, state_of}
use Rattle.graph.specs.Form.{starts_from, total_from, PackedRows, Laid}
use Rattle.graph.specs.laws.Row.{header-get, rows-length}
use Rattle.graph.specs.inner.Lists.{olen_word, blen_word, start_word}

-- ---- one node

-- the test `fitsAt` as facts
pub record FitsAt (a l s k o : ℕ) : Type 0 where
  pub start : s ≡ a
  pub boundary : k ≤ l
  pub stack : o ≤ l
  pub end : a + k + o ≤ l

pub fits-of : (a l s k o : ℕ) → fits_at a l s k o ≡ true → FitsAt a l s k o
unfolding fits_at
fits-of a l s k o h =
    let x = eqb s a in
    let y = leb k l in
    let z = leb o l in
    let w = leb (a + k + o) l in
    let h₁ = and_left (x && y && z) w h in
    let h₂ = and_left (x && y) z h₁ in
    record {
      start = eqb-true s a (and_left x y h₂);
      boundary = leb-true k l (and_right x y h₂);
      stack = leb-true o l (and_right (x && y) z h₁);
      end = leb-true (a + k + o) l (and_right (x && y && z) w h);
    }

pub three-of : (a l s k o : ℕ) → eqb s a && leb k l && leb o l ≡ true → (k ≤ l) × (o ≤ l)
three-of a l s k o h = (
  leb-true k l (and_right (eqb s a) (leb k l) (and_left (eqb s a && leb k l) (leb o l) h)),
  leb-true o l (and_right (eqb s a && leb k l) (leb o l) h),
)

-- ---- all nodes

-- what the test says of the starts
packed-from : (l a : ℕ) (ss bs os : List ℕ) → length ss ≡ length bs → length os ≡ length bs → a ≤ l
    → packed_from l a ss bs os ≡ true → (ss ≡ starts_from a bs os) × (total_from a bs os ≤ l)
unfolding packed_from starts_from total_from
packed-from l a [] [] os p q h e = (refl, h)
packed-from l a [] (b ∷ bs) os p q h e = absurd (omega arith)
packed-from l a (s ∷ ss) [] os p q h e = absurd (omega arith)
packed-from l a (s ∷ ss) (b ∷ bs) [] p q h e = absurd (omega arith)
packed-from l a (s ∷ ss) (b ∷ bs) (o ∷ os) p q h e =
    let f : FitsAt a l s b o = fits-of a l s b o (and_left (fits_at a l s b o) (packed_from l (a + b + o) ss bs os) e) in
    let r = packed-from l (a + b + o) ss bs os (omega arith) (omega arith) f.end (and_right (fits_at a l s b o) (packed_from l (a + b + o) ss bs os) e) in
    let u : s ≡ a = f.start in
    let v : ss ≡ starts_from (a + b + o) bs os = r.0 in
    (cc, r.1)

-- the first words of row k, as many as there are nodes
abbrev pub node_row : List ℤ → ℕ → List ℕ
node_row b k = take (count_of b) (row (rows_of b) k)

-- the loop: what remains after n nodes, from place a on, gives the whole
pub record Packing (b : List ℤ) (n a : ℕ) : Type 0 where
  pub below : n ≤ node_count (state_of b)
  pub within : a ≤ (state_of b).store_limit
  pub same : packed_from (state_of b).store_limit a (drop n (node_row b start_row)) (drop n (node_row b boundary_length_row)) (drop n (node_row b overgrown_length_row)) ≡ packed b

-- the lists of node n fit at place a
abbrev pub node_fits : List ℤ → ℕ → ℕ → Bool
node_fits b a n = fits_at a (state_of b).store_limit (start_word b n) (blen_word b n) (olen_word b n)

module _ (b : List ℤ) (q : Laid b) where
  cut-length : (k : ℕ) → length (row (rows_of b) k) ≡ n_of b → length (node_row b k) ≡ node_count (state_of b)
  unfolding Laid
  cut-length k e = length-take-le (count_of b) (row (rows_of b) k) (omega (arith, e, q.counted.count-max)) ∙ sym q.counted.nodes

  length-starts : length (node_row b start_row) ≡ node_count (state_of b)
  unfolding Laid offset
  length-starts = cut-length 15 (rows-length b start_row (omega arith))

  length-blens : length (node_row b boundary_length_row) ≡ node_count (state_of b)
  unfolding Laid offset
  length-blens = cut-length 16 (rows-length b boundary_length_row (omega arith))

  length-olens : length (node_row b overgrown_length_row) ≡ node_count (state_of b)
  unfolding Laid offset
  length-olens = cut-length 17 (rows-length b overgrown_length_row (omega arith))

  cut_at : (k n : ℕ) → n < node_count (state_of b) → get_or (row (rows_of b) k) n 0 ≡ get_or (node_row b k) n 0
  unfolding Laid
  cut_at k n h = sym (get_or-take (count_of b) (row (rows_of b) k) n 0 (omega (arith, h, q.counted.nodes)))

  limit_is : (state_of b).store_limit ≡ l_of b
  unfolding Laid
  limit_is = q.counted.store-limit

  -- the test shows the form
  pub packed-of : packed b ≡ true → PackedRows (rows_of b)
  unfolding packed Laid
  packed-of e =
      let c : get_or (row (rows_of b) header_row) 4 0 ≡ count_of b = header-get b 4 (omega arith) in
      let r =
      packed-from (l_of b) 0 (node_row b start_row) (node_row b boundary_length_row) (node_row b overgrown_length_row) (length-starts ∙ sym length-blens)
      (length-olens ∙ sym length-blens) (omega arith) e in
      record {
        count-max = omega (arith, c, header-get b 2 (omega arith), q.counted.count-max);
        starts = rw c r.0;
        total = rw (c, header-get b 3 (omega arith)) r.1;
      }

  pub packing-none : Packing b 0 0
  unfolding packed
  packing-none = record { below = omega arith; within = omega arith; same = rw limit_is }

  turn : (n a : ℕ) → n < node_count (state_of b)
      → packed_from (state_of b).store_limit a (drop n (node_row b start_row)) (drop n (node_row b boundary_length_row)) (drop n (node_row b overgrown_length_row))
      ≡ node_fits b a n
      && packed_from (state_of b).store_limit (a + blen_word b n + olen_word b n) (drop (n + 1) (node_row b start_row))
      (drop (n + 1) (node_row b boundary_length_row)) (drop (n + 1) (node_row b overgrown_length_row))
  unfolding packed_from
  turn n a h =
      rw (
        add-one,
        drop-cons (node_row b start_row) n 0 (omega (arith, length-starts)),
        drop-cons (node_row b boundary_length_row) n 0 (omega (arith, length-blens)),
        drop-cons (node_row b overgrown_length_row) n 0 (omega (arith, length-olens)),
        cut_at 15 n h,
        cut_at 16 n h,
        cut_at 17 n h,
      )

  pub packing-more : (n a : ℕ) → Packing b n a → n < node_count (state_of b) → node_fits b a n ≡ true → Packing b (n + 1) (a + blen_word b n + olen_word b n)
  packing-more n a p h e =
      let f = fits-of a (state_of b).store_limit (start_word b n) (blen_word b n) (olen_word b n) e in
      record { below = omega arith; within = f.end; same = sym (rw e at (turn n a h)) ∙ p.same }

  pub packing-fails : (n a : ℕ) → Packing b n a → n < node_count (state_of b) → node_fits b a n ≡ false → false ≡ packed b
  packing-fails n a p h e = sym (rw e at (turn n a h)) ∙ p.same

  pub packing-all : (n a : ℕ) → Packing b n a → node_count (state_of b) ≤ n → true ≡ packed b
  unfolding packed_from
  packing-all n a p h = let e : drop n (node_row b start_row) ≡ [] = drop_of_length-le (node_row b start_row) {i = n} (rw length-starts h) in (rw e at p.same)
