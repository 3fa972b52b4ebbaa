-- The lists of one node replaced: the state that the block holds then.
use Prim.Native.Nat.{ℕ, ◌+◌, ◌-◌, ◌≤◌, ◌<◌}
use Rattle.std.proofs.Common.{arith, ◌∙◌, length-drop, take-append-drop, take-take}
use Rattle.std.proofs.Math.Decide.{dec_lt}
use Rattle.std.specs.Prelude.{◌≡◌, refl, ℤ}
use Rattle.std.proofs.Math.Path.{sym, ap}
use mathlib.Core.List.{List, [], ◌∷◌, ◌++◌, map, reverse, reverse-append}
use Rattle.std.proofs.Math.ListN.{length, set, get_or, take, drop, length-set, length-append}
use Rattle.std.proofs.Math.Seq.{get_or-take, ext_get_or, length-take-le, take-set-lt, take_at, drop_at, take_all}
use Rattle.graph.specs.State.{node_count, boundary_of, overgrown_of, with_nodes, with_boundary, with_overgrown}
use Rattle.graph.specs.Sound.{entries, entries_of}
use Rattle.graph.specs.Word.{numbers_at}
use Rattle.graph.specs.Rows.{rows, offset, header_row, start_row, boundary_length_row, overgrown_length_row, store_row}
use Rattle.graph.specs.Layout.{rows_of, row, overgrown_from, stack_from, boundaries, stacks, state_from, state_of}
use Rattle.graph.specs.Form.{starts_from, Laid, Listed, Wired, PackedRows, GraphRows, Formed}
use Rattle.graph.specs.inner.Form.{Rowed, Becomes}
use Rattle.graph.specs.inner.Replace.{with_lists}
use Rattle.graph.specs.laws.Row.{header-get, rows-length, formed-of, state-of-rows}
use Rattle.graph.specs.laws.Number.{numbers-length}
use Rattle.graph.specs.laws.List.{store_length, store-max, nodes-within, length-stack, Lists, lists_of}
use Rattle.graph.specs.inner.Lists.{store_of, olen_word, blen_word, start_word}
use Rattle.graph.specs.laws.Cut.{total-sum, starts-at, starts-length, sum-set, start-set-le, start-set-gt, Local, cut, cut-replaced, boundaries-cut, stacks-cut, boundary-local, stack-local}
use Rattle.graph.specs.inner.Cut.{start_at, sum_of_lists, olens, blens}
use Rattle.store.specs.laws.Store.{rowed-kept, kept_then}
use Rattle.store.specs.inner.Store.{Resized, Stored, new_lists, SameCounts, Replaceable}
use Rattle.graph.specs.laws.Used.{count-is, length-bs, length-os, start_is, entries-within, split-of, part_of, later}

-- ---- stacks

map-append : (xs ys : List ℕ) → map overgrown_from (xs ++ ys) ≡ map overgrown_from xs ++ map overgrown_from ys
map-append [] ys = refl
map-append (x ∷ xs) ys = ap (λ r. overgrown_from x ∷ r) (map-append xs ys)

stack-append : (xs ys : List ℕ) → stack_from (xs ++ ys) ≡ stack_from ys ++ stack_from xs
unfolding stack_from
stack-append xs ys = rw (reverse-append xs ys) (map-append (reverse ys) (reverse xs))

-- the lowest m entries
stack-lowest : (l : List ℕ) (m : ℕ) → stack_from (take m l) ≡ drop (length l - m) (stack_from l)
stack-lowest l m =
    let e : stack_from l ≡ stack_from (drop m l) ++ stack_from (take m l) = ap stack_from (sym (take-append-drop m l)) ∙ stack-append (take m l) (drop m l) in
    rw e (sym (drop_at (stack_from (drop m l)) (stack_from (take m l)) (length l - m) (length-stack (drop m l) ∙ length-drop m l)))

-- ---- what is asked of a replacement

-- what the readers give: start a, boundary length x, overgrown length w, entries u
module _ (b : List ℤ) (n a x w u : ℕ) (q : Laid b) (f : Listed b) (h : n < node_count (state_of b))
    (ea : a ≡ start_word b n) (ex : x ≡ length (boundary_of (state_of b) n)) (ew : w ≡ length (overgrown_of (state_of b) n))
    (eu : u ≡ entries (state_of b)) where
  pub asked-part : a + (x + w) ≤ u
  asked-part = let l : Lists b n = lists_of b n q f h in omega (arith, part_of b q f n h, ea, ex, ew, eu, l.boundary-length, l.overgrown-length)

  pub asked_of : (k m o : ℕ) → m ≤ length (overgrown_of (state_of b) n)
      → entries (state_of b) + (k + m + o) ≤ (state_of b).store_limit + entries_of (state_of b) n
      → Replaceable b n a x (x + w) (u - (a + (x + w))) k m o
  unfolding entries_of
  asked_of k m o hm hr =
      let l : Lists b n = lists_of b n q f h in
      let s : a + (x + w) + (u - (a + (x + w))) ≡ entries (state_of b) = omega (arith, asked-part, eu) in
      let y : x + w ≡ blen_word b n + olen_word b n = omega (arith, ex, ew, l.boundary-length, l.overgrown-length) in
      record {
        split = split-of b q f n a (x + w) (u - (a + (x + w))) h ea y s;
        start = ea;
        boundary = ex ∙ l.boundary-length;
        both = y;
        keeps = omega (arith, hm, ew);
        within = omega (arith, s, entries-within b q f);
        room = omega (arith, s, hr, ex, ew);
        small = store-max b q;
      }

starts-still : (b₀ b₁ : List ℤ) → Rowed store_row b₀ b₁ (store_of b₁) → row (rows_of b₁) start_row ≡ row (rows_of b₀) start_row
unfolding rows_of rows
starts-still b₀ b₁ r = ap (λ z. row z start_row) r.rows

-- what the sizes ask when the words are in place
pub asked-sizes : (b₀ b₁ : List ℤ) (n a x y rest k m o c : ℕ) → Formed b₀ → Replaceable b₀ n a x y rest k m o
    → Rowed store_row b₀ b₁ (store_of b₁) → c ≡ node_count (state_of b₀)
    → Laid b₁ × (n < c) × (c ≤ (state_of b₁).node_limit) × (k + (m + o) ≤ 65536) × ((p : ℕ) → n + 1 ≤ p → p < c → (y ≤ start_word b₁ p) × (start_word b₁ p ≤ 65536))
asked-sizes b₀ b₁ n a x y rest k m o c f w r e = (
  r.laid,
  omega (arith, w.split.below, e),
  omega (arith, nodes-within b₀ f.laid, e, r.node-limit),
  omega (arith, w.room, w.small),
  λ p i j. rw (starts-still b₀ b₁ r, w.both) (later b₀ f.laid f.listed n p (omega arith) (omega (arith, e, j))),
)

-- ---- what is there in the end

module _ (b₀ b₁ b₂ t : List ℤ) (n a x y rest k m q o : ℕ) (f : Formed b₀) (w : Replaceable b₀ n a x y rest k m o)
    (s : Stored b₀ b₁ t a x y rest k m q o) (z : Resized b₁ b₂ n (node_count (state_of b₀)) k (m + o) y)
    (ht : k ≤ length t) (hq : q + o ≤ length t) where
  bs : List ℕ
  bs = set (blens b₀) n k

  os : List ℕ
  os = set (olens b₀) n (m + o)

  below-b : n < length (blens b₀)
  below-b = omega (arith, length-bs b₀ f.laid f.listed, w.split.below)

  below-o : n < length (olens b₀)
  below-o = omega (arith, length-os b₀ f.laid f.listed, w.split.below)

  -- the lists
  length-k : length (numbers_at t 0 k) ≡ k
  length-k = numbers-length t 0 k (omega arith)

  length-m : length (take m (drop (a + x) (store_of b₀))) ≡ m
  length-m =
      length-take-le m (drop (a + x) (store_of b₀))
      (rw (length-drop (a + x) (store_of b₀)) (omega (arith, store_length b₀ f.laid, w.within, w.keeps)))

  length-stack-words : length (take m (drop (a + x) (store_of b₀)) ++ numbers_at t q o) ≡ m + o
  length-stack-words = length-append (take m (drop (a + x) (store_of b₀))) (numbers_at t q o) ∙ omega (arith, length-m, numbers-length t q o hq)

  length-new : length (new_lists b₀ t a x k m q o) ≡ k + (m + o)
  unfolding new_lists
  length-new = length-append (numbers_at t 0 k) (take m (drop (a + x) (store_of b₀)) ++ numbers_at t q o) ∙ omega (arith, length-k, length-stack-words)

  sum-now : sum_of_lists bs os ≡ a + (k + (m + o)) + rest
  unfolding bs os
  sum-now = omega (arith, sum-set (blens b₀) (olens b₀) n k (m + o) below-b below-o, w.split.sum, w.split.is-old)

  store_same : length (store_of b₁) ≡ (state_of b₀).store_limit
  store_same = store_length b₁ s.still.laid ∙ s.still.store-limit

  lists-now : {A : Type 0} (g : ℕ → ℕ → List ℕ → A) → Local g
      → cut g bs os (store_of b₁)
      ≡ set (cut g (blens b₀) (olens b₀) (store_of b₀)) n (g k (m + o) (new_lists b₀ t a x k m q o))
  unfolding bs os
  lists-now g loc =
      cut-replaced g loc (blens b₀) (olens b₀) n k (m + o) (store_of b₀) (store_of b₁) (new_lists b₀ t a x k m q o) below-b below-o
      (rw (← w.split.is-start) s.before) (rw (← w.split.is-start) s.inner)
      (rw (← w.split.is-start, ← w.split.is-old, ← w.split.is-rest) s.after)
      (omega (arith, w.split.sum, store_length b₀ f.laid, w.within)) (omega (arith, sum-now, store_same, w.room)) (omega (arith, length-new))

  boundaries-now : boundaries bs os (store_of b₁) ≡ set (boundaries (blens b₀) (olens b₀) (store_of b₀)) n (numbers_at t 0 k)
  unfolding new_lists
  boundaries-now =
      rw (
        boundaries-cut bs os (store_of b₁),
        boundaries-cut (blens b₀) (olens b₀) (store_of b₀),
        lists-now (λ b o l. take b l) boundary-local,
        take_at (numbers_at t 0 k) (take m (drop (a + x) (store_of b₀)) ++ numbers_at t q o) k length-k,
      )

  -- the words of the new stack give its entries
  stack-now : stack_from (take (m + o) (drop k (new_lists b₀ t a x k m q o)))
      ≡ stack_from (numbers_at t q o) ++ drop (length (overgrown_of (state_of b₀) n) - m) (overgrown_of (state_of b₀) n)
  unfolding new_lists
  stack-now =
      let l : Lists b₀ n = lists_of b₀ n f.laid f.listed w.split.below in
      let d : List ℕ = drop (a + x) (store_of b₀) in
      let ld : length (take (olen_word b₀ n) d) ≡ olen_word b₀ n =
      length-take-le (olen_word b₀ n) d
      (rw (length-drop (a + x) (store_of b₀))
      (omega (arith, store_length b₀ f.laid, w.within, w.boundary, w.both))) in
      let e : overgrown_of (state_of b₀) n ≡ stack_from (take (olen_word b₀ n) d) = rw (w.start, w.boundary) l.overgrown in
      let i : take m d ≡ take m (take (olen_word b₀ n) d) = sym (take-take m (olen_word b₀ n) d (omega (arith, w.keeps, w.boundary, w.both))) in
      rw (
        drop_at (numbers_at t 0 k) (take m d ++ numbers_at t q o) k length-k,
        take_all (m + o) (take m d ++ numbers_at t q o) (omega (arith, length-stack-words)),
        stack-append (take m d) (numbers_at t q o),
        l.overgrown-length,
        e,
      )
      (ap (λ r. stack_from (numbers_at t q o) ++ r)
      (ap stack_from i ∙ stack-lowest (take (olen_word b₀ n) d) m
      ∙ ap (λ r. drop (r - m) (stack_from (take (olen_word b₀ n) d))) ld))

  stacks-now : stacks bs os (store_of b₁)
      ≡ set (stacks (blens b₀) (olens b₀) (store_of b₀)) n
      (stack_from (numbers_at t q o) ++ drop (length (overgrown_of (state_of b₀) n) - m) (overgrown_of (state_of b₀) n))
  stacks-now =
      rw (
        stacks-cut bs os (store_of b₁),
        stacks-cut (blens b₀) (olens b₀) (store_of b₀),
        lists-now (λ b o l. stack_from (take o (drop b l))) stack-local,
        stack-now,
      )

  -- the starts
  start-now : (p : ℕ) → p < node_count (state_of b₀) → start_word b₂ p ≡ start_at bs os p
  unfolding bs os
  start-now p h =
      let e : start_word b₁ p ≡ start_at (blens b₀) (olens b₀) p = rw (starts-still b₀ b₁ s.still) (start_is b₀ f.laid f.listed p h) in
      elim (dec_lt n p) [
        | yes i ↦
            let g =
            start-set-gt (blens b₀) (olens b₀) n k (m + o) p i (omega (arith, length-bs b₀ f.laid f.listed))
            (omega (arith, length-os b₀ f.laid f.listed)) in
            z.behind p i h ∙ omega (arith, e, g, w.split.is-old)
        | no i ↦ z.before p (omega arith) ∙ e ∙ sym (start-set-le (blens b₀) (olens b₀) n k (m + o) p (omega arith))
      ]

  starts-size : length (row (rows_of b₂) start_row) ≡ (state_of b₀).node_limit
  unfolding offset Laid
  starts-size =
      let g = f.laid in
      z.size ∙ ap length (starts-still b₀ b₁ s.still) ∙ rows-length b₀ start_row (omega (arith, g.sized))
      ∙ sym g.counted.node-limit

  starts-now : take (get_or (row (rows_of b₀) header_row) 4 0) (row (rows_of b₂) start_row) ≡ starts_from 0 bs os
  unfolding bs os Laid
  starts-now =
      let c : ℕ = get_or (row (rows_of b₀) header_row) 4 0 in
      let g = f.laid in
      let e : c ≡ node_count (state_of b₀) = count-is b₀ f.laid f.listed in
      let lb : length bs ≡ node_count (state_of b₀) = length-set (blens b₀) n k ∙ length-bs b₀ f.laid f.listed in
      let lo : length os ≡ node_count (state_of b₀) = length-set (olens b₀) n (m + o) ∙ length-os b₀ f.laid f.listed in
      let ls : length (take c (row (rows_of b₂) start_row)) ≡ node_count (state_of b₀) =
      length-take-le c (row (rows_of b₂) start_row) (omega (arith, starts-size, e, g.counted)) ∙ e in
      ext_get_or 0 (take c (row (rows_of b₂) start_row)) (starts_from 0 bs os) (ls ∙ sym (starts-length 0 bs os (lb ∙ sym lo) ∙ lb))
      (λ p h. get_or-take c (row (rows_of b₂) start_row) p 0 (omega (arith, ls, e, h)) ∙ start-now p (omega (arith, ls, h))
      ∙ sym (starts-at 0 bs os p (omega (arith, ls, lb, h)) (omega (arith, ls, lo, h)) ∙ omega arith))

  blens-now : take (get_or (row (rows_of b₀) header_row) 4 0) (set (row (rows_of b₀) boundary_length_row) n k) ≡ bs
  unfolding bs
  blens-now = take-set-lt (get_or (row (rows_of b₀) header_row) 4 0) (row (rows_of b₀) boundary_length_row) n k (omega (arith, count-is b₀ f.laid f.listed, w.split.below))

  olens-now : take (get_or (row (rows_of b₀) header_row) 4 0) (set (row (rows_of b₀) overgrown_length_row) n (m + o)) ≡ os
  unfolding os
  olens-now = take-set-lt (get_or (row (rows_of b₀) header_row) 4 0) (row (rows_of b₀) overgrown_length_row) n (m + o) (omega (arith, count-is b₀ f.laid f.listed, w.split.below))

  -- the rows
  rows_end : List (List ℕ)
  rows_end = set (set (set (set (rows_of b₀) store_row (store_of b₁)) 15 (row (rows_of b₂) start_row)) 16 (set (row (rows_of b₀) boundary_length_row) n k)) 17 (set (row (rows_of b₀) overgrown_length_row) n (m + o))

  rows_end_lem : rows_of b₂ ≡ rows_end
  unfolding rows_of rows rows_end
  rows_end_lem = z.rows ∙ ap (λ r. set (set (set r 15 (row (rows_of b₂) start_row)) 16 (set (row r boundary_length_row) n k)) 17 (set (row r overgrown_length_row) n (m + o))) s.still.rows

  room-end : sum_of_lists bs os ≤ get_or (row (rows_of b₀) header_row) 3 0
  unfolding Laid
  room-end = let g = f.laid in omega (arith, sum-now, w.room, header-get b₀ 3 (omega arith), g.counted.store-limit)

  packed-end : PackedRows rows_end
  unfolding rows_of rows rows_end Listed
  packed-end = let g = f.listed in record {
    count-max = g.count-max;
    starts = rw (blens-now, olens-now) starts-now;
    total = rw (blens-now, olens-now, total-sum 0 bs os) (omega (arith, room-end));
  }

  graph-end : GraphRows rows_end
  unfolding rows_of rows rows_end Wired
  graph-end = f.wired

  state-end : state_from rows_end ≡ with_lists (state_of b₀) n (numbers_at t 0 k) m (numbers_at t q o)
  unfolding rows_of rows rows_end state_of state_from with_lists with_overgrown with_boundary with_nodes
  state-end = rw (blens-now, olens-now, boundaries-now, stacks-now)

  pub replaced : Becomes b₀ b₂ (with_lists (state_of b₀) n (numbers_at t 0 k) m (numbers_at t q o))
  replaced =
      let g : SameCounts b₀ b₂ = kept_then (rowed-kept s.still) z.kept in
      record {
        formed = formed-of b₂ g.laid (rw rows_end_lem packed-end) (rw rows_end_lem graph-end);
        state = state-of-rows b₂ rows_end rows_end_lem ∙ state-end;
        vertices = g.vertices;
        edges = g.edges;
        sides = g.sides;
        nodes = g.nodes;
        len = g.len;
      }
