-- The lists of all nodes in the store: how many words they take, and where those of one node stand among them.
use Rattle.std.specs.Prelude.{ℕ, zero, suc, ◌+◌, ◌≤◌, ◌<◌, ◌≡◌, refl, List, [], ◌∷◌, ℤ, take}
use native.Mathlib.Omega.{arith}
use Rattle.std.proofs.Math.Path.{sym, ap}
use Rattle.std.proofs.Common.{◌∙◌, get_or-take}
use Rattle.std.proofs.Math.ListN.{length, get_or}
use Rattle.std.proofs.Math.Seq.{length-take-le}
use Rattle.graph.specs.Basic.{sum_below}
use Rattle.graph.specs.State.{State, node_count, boundary_of, overgrown_of}
use Rattle.graph.specs.Sound.{entries, entries_of}
use Rattle.graph.specs.Rows.{offset, header_row, start_row, boundary_length_row, overgrown_length_row}
use Rattle.graph.specs.Layout.{rows_of, row, state_of}
use Rattle.graph.specs.Form.{Laid, Listed, total_from}
use Rattle.graph.specs.laws.Row.{header-get, rows-length}
use Rattle.graph.specs.laws.Sums.{sum_same}
use Rattle.graph.specs.laws.List.{store-max, lists_of}
use Rattle.graph.specs.inner.Lists.{olen_word, blen_word, start_word}
use Rattle.graph.specs.laws.Cut.{total-sum, starts-at, parts-sum, start-behind}
use Rattle.graph.specs.inner.Cut.{rest_at, start_at, sum_of_lists, blens, olens, Split}

rest-last : (bs os : List ℕ) (n : ℕ) → n + 1 ≡ length bs → n + 1 ≡ length os → rest_at bs os n ≡ 0
unfolding rest_at sum_of_lists
rest-last [] os n h k = refl
rest-last (b ∷ bs) [] n h k = refl
rest-last (b ∷ []) (o ∷ os) zero h k = refl
rest-last (b ∷ c ∷ bs) (o ∷ os) zero h k = absurd (omega arith)
rest-last (b ∷ bs) (o ∷ os) (suc n) h k = rest-last bs os n (omega arith) (omega arith)

-- ---- sums

sum_first : (f : ℕ → ℕ) (n : ℕ) → sum_below f (suc n) ≡ f 0 + sum_below (λ i. f (suc i)) n
unfolding sum_below
sum_first f zero = omega arith
sum_first f (suc n) = let ih : sum_below f n + f n ≡ f 0 + sum_below (λ i. f (suc i)) n = sum_first f n in omega arith

sum-lists : (bs os : List ℕ) → length bs ≡ length os → sum_below (λ i. get_or bs i 0 + get_or os i 0) (length bs) ≡ sum_of_lists bs os
unfolding sum_of_lists sum_below
sum-lists [] os h = refl
sum-lists (b ∷ bs) [] h = absurd (omega arith)
sum-lists (b ∷ bs) (o ∷ os) h =
    sum_first (λ i. get_or (b ∷ bs) i 0 + get_or (o ∷ os) i 0) (length bs)
    ∙
    (let ih : sum_below (λ i. get_or bs i 0 + get_or os i 0) (length bs) ≡ sum_of_lists bs os = sum-lists bs os (omega arith) in
    omega arith)

pub entries_none : (c : State) → node_count c ≡ 0 → entries c ≡ 0
unfolding entries sum_below
entries_none c h = rw h

-- ---- where the lists stand

module _ (b : List ℤ) (q : Laid b) (f : Listed b) where
  pub count-is : get_or (row (rows_of b) header_row) 4 0 ≡ node_count (state_of b)
  unfolding Laid
  count-is = header-get b 4 (omega arith) ∙ sym q.counted.nodes

  pub length-bs : length (blens b) ≡ node_count (state_of b)
  unfolding Laid offset
  length-bs = length-take-le (get_or (row (rows_of b) header_row) 4 0) (row (rows_of b) boundary_length_row) (omega (arith, rows-length b boundary_length_row (omega arith), count-is)) ∙ count-is

  pub length-os : length (olens b) ≡ node_count (state_of b)
  unfolding Laid offset
  length-os = length-take-le (get_or (row (rows_of b) header_row) 4 0) (row (rows_of b) overgrown_length_row) (omega (arith, rows-length b overgrown_length_row (omega arith), count-is)) ∙ count-is

  pub blen-is : (n : ℕ) → n < node_count (state_of b) → get_or (blens b) n 0 ≡ blen_word b n
  blen-is n h = get_or-take (get_or (row (rows_of b) header_row) 4 0) (row (rows_of b) boundary_length_row) n 0 (omega (arith, count-is))

  pub olen-is : (n : ℕ) → n < node_count (state_of b) → get_or (olens b) n 0 ≡ olen_word b n
  olen-is n h = get_or-take (get_or (row (rows_of b) header_row) 4 0) (row (rows_of b) overgrown_length_row) n 0 (omega (arith, count-is))

  pub start_is : (n : ℕ) → n < node_count (state_of b) → start_word b n ≡ start_at (blens b) (olens b) n
  unfolding Listed
  start_is n h =
      sym (get_or-take (get_or (row (rows_of b) header_row) 4 0) (row (rows_of b) start_row) n 0 (omega (arith, count-is)))
      ∙ ap (λ r. get_or r n 0) f.starts
      ∙ starts-at 0 (blens b) (olens b) n (omega (arith, length-bs)) (omega (arith, length-os))
      ∙ omega arith

  -- all lists have as many words as there are entries
  pub sum-entries : sum_of_lists (blens b) (olens b) ≡ entries (state_of b)
  unfolding entries entries_of
  sum-entries =
      sym (sum-lists (blens b) (olens b) (length-bs ∙ sym length-os))
      ∙ ap (sum_below (λ i. get_or (blens b) i 0 + get_or (olens b) i 0)) length-bs
      ∙ sum_same (λ i. get_or (blens b) i 0 + get_or (olens b) i 0)
      (λ n. length (boundary_of (state_of b) n) + length (overgrown_of (state_of b) n)) (node_count (state_of b))
      (λ i h. let l = lists_of b i q f h in omega (arith, l.boundary-length, l.overgrown-length, blen-is i h, olen-is i h))

  parts : (n : ℕ) → n < node_count (state_of b) → start_word b n + (blen_word b n + olen_word b n) + rest_at (blens b) (olens b) n ≡ entries (state_of b)
  parts n h =
      omega (
        arith,
        sum-entries,
        parts-sum (blens b) (olens b) n (omega (arith, length-bs)) (omega (arith, length-os)),
        start_is n h,
        blen-is n h,
        olen-is n h,
      )

  -- and the next list would start behind them
  pub entries-total : (n : ℕ) → n ≡ node_count (state_of b) → entries (state_of b) ≡ total_from 0 (take n (row (rows_of b) boundary_length_row)) (take n (row (rows_of b) overgrown_length_row))
  entries-total n e = rw (e, ← count-is) (sym sum-entries ∙ sym (total-sum 0 (blens b) (olens b) ∙ omega arith))

  pub entries-within : entries (state_of b) ≤ (state_of b).store_limit
  unfolding Laid Listed
  entries-within = omega (arith, sum-entries, total-sum 0 (blens b) (olens b), f.total, header-get b 3 (omega arith), q.counted.store-limit)

  -- the lists of the last node end where all lists end
  pub entries-last : (n : ℕ) → n + 1 ≡ node_count (state_of b) → start_word b n + blen_word b n + olen_word b n ≡ entries (state_of b)
  entries-last n h =
      let z = rest-last (blens b) (olens b) n (omega (arith, length-bs)) (omega (arith, length-os)) in
      omega (arith, parts n (omega arith), z)

  pub split-of : (n a y rest : ℕ) → n < node_count (state_of b) → a ≡ start_word b n → y ≡ blen_word b n + olen_word b n
      → a + y + rest ≡ entries (state_of b) → Split b n a y rest
  split-of n a y rest h ea ey er = record {
    below = h;
    is-start = ea ∙ start_is n h;
    is-old = omega (arith, ey, blen-is n h, olen-is n h);
    is-rest = omega (arith, parts n h, ea, ey, er);
    sum = er ∙ sym sum-entries;
  }

  -- a node's lists are a part of all, and those of a later node start behind them
  pub part_of : (n : ℕ) → n < node_count (state_of b) → start_word b n + (blen_word b n + olen_word b n) ≤ entries (state_of b)
  part_of n h = omega (arith, parts n h)

  pub later : (n x : ℕ) → n < x → x < node_count (state_of b) → (blen_word b n + olen_word b n ≤ start_word b x) × (start_word b x ≤ 65536)
  later n x h k =
      let e = start-behind (blens b) (olens b) n x h (omega (arith, length-bs)) (omega (arith, length-os)) in
      (omega (arith, start_is x k, e, blen-is n (omega arith), olen-is n (omega arith)), omega (arith, part_of x k, entries-within, store-max b q))
