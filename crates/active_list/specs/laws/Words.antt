-- The active list in the words of a block: its row and its length, which no other part of the state is read from.
use Prim.Native.Nat.{ℕ, ◌+◌, ◌≤◌, ◌<◌}
use Rattle.std.proofs.Common.{arith, add-one, sym, ap, ◌∙◌, take-suc-set, take-take}
use Rattle.std.specs.Prelude.{◌≡◌, List, [], ◌∷◌, ◌++◌, ℤ, length, set, take}
use Rattle.std.proofs.Math.Path.{refl}
use Rattle.std.proofs.Math.ListN.{get_or, length-take}
use Rattle.std.proofs.Math.Seq.{get_or-set_same, get_or-set_other, take-set-lt}
use Rattle.std.proofs.lemmas.List.{take-set-le}
use Rattle.graph.specs.State.{with_active}
use Rattle.graph.specs.Rows.{rows, offset, header_row, active_row}
use Rattle.graph.specs.Layout.{rows_of, row, state_from, state_of}
use Rattle.graph.specs.Form.{Laid, Listed, Wired, PackedRows, GraphRows, Formed}
use Rattle.graph.specs.inner.Form.{Rowed, Becomes}
use Rattle.graph.specs.inner.Recounted.{ActiveRecounted}
use Rattle.graph.specs.laws.Row.{header-get, rows-length, becomes-row, becomes-then, rowed-row, formed-of}

-- the list stands at the front of its row
active-count : (b : List ℤ) → Laid b → get_or (row (rows_of b) header_row) 5 0 ≡ length (state_of b).active
unfolding Laid
active-count b q = header-get b 5 (omega arith) ∙ sym q.counted.actives

pub active-of : (b : List ℤ) → Laid b → (state_of b).active ≡ take (length (state_of b).active) (row (rows_of b) active_row)
unfolding state_of state_from
active-of b q = ap (λ k. take k (row (rows_of b) active_row)) (active-count b q)

-- ---- a word of its row

module _ (b b' : List ℤ) (f : Formed b) (i x : ℕ) (r : Rowed active_row b b' (set (row (rows_of b) active_row) i x)) where
  same-packed : PackedRows (set (rows_of b) active_row (set (row (rows_of b) active_row) i x))
  unfolding Listed rows_of rows
  same-packed = f.listed

  same_graph : GraphRows (set (rows_of b) active_row (set (row (rows_of b) active_row) i x))
  unfolding Wired rows_of rows
  same_graph = f.wired

  put-state : i < length (state_of b).active
      → state_from (set (rows_of b) active_row (set (row (rows_of b) active_row) i x)) ≡ with_active (state_of b) (set (state_of b).active i x)
  unfolding state_of state_from with_active rows_of rows
  put-state h =
      let k : ℕ = get_or (row (rows_of b) header_row) 5 0 in
      let j : i < k = omega (arith, h, length-take k (row (rows_of b) active_row)) in
      rw (take-set-lt k (row (rows_of b) active_row) i x j) refl

  pub entry-put : i < length (state_of b).active → Becomes b b' (with_active (state_of b) (set (state_of b).active i x))
  entry-put h = becomes-row r same-packed same_graph (put-state h)

-- ---- its length

module _ (b b' : List ℤ) (f : Formed b) (x : ℕ) (r : ActiveRecounted b b' x) where
  header : List ℕ
  header = set (row (rows_of b) header_row) 5 x

  header-length : length (row (rows_of b) header_row) ≡ 16
  unfolding Laid offset
  header-length = rows-length b header_row (omega (arith, f.laid.sized))

  header-here : get_or header 5 0 ≡ x
  unfolding header
  header-here = get_or-set_same (row (rows_of b) header_row) 5 x 0 (omega (arith, header-length))

  header-other : (i : ℕ) → i < 5 → get_or header i 0 ≡ get_or (row (rows_of b) header_row) i 0
  unfolding header
  header-other i h = get_or-set_other (row (rows_of b) header_row) 5 i x 0 (λ e. omega arith)

  header-mark : get_or header 6 0 ≡ get_or (row (rows_of b) header_row) 6 0
  unfolding header
  header-mark = get_or-set_other (row (rows_of b) header_row) 5 6 x 0 (λ e. omega arith)

  counted-packed : PackedRows (set (rows_of b) header_row header)
  unfolding Listed rows_of rows
  counted-packed =
      let q = f.listed in
      record {
        count-max = rw (header-other 4 (omega arith), header-other 2 (omega arith)) q.count-max;
        starts = rw (header-other 4 (omega arith)) q.starts;
        total = rw (header-other 4 (omega arith), header-other 3 (omega arith)) q.total;
      }

  counted-graph : GraphRows (set (rows_of b) header_row header)
  unfolding Wired rows_of rows
  counted-graph =
      let g = f.wired in
      record {
        ends = rw (header-other 0 (omega arith)) g.ends;
        sides = rw (header-other 0 (omega arith)) g.sides;
        firsts = rw (header-other 1 (omega arith)) g.firsts;
        weights = g.weights;
        originals = g.originals;
      }

  counted-state : state_from (set (rows_of b) header_row header) ≡ with_active (state_of b) (take x (row (rows_of b) active_row))
  unfolding state_of state_from with_active rows_of rows
  counted-state =
      rw (header-here, header-other 0 (omega arith), header-other 2 (omega arith), header-other 3 (omega arith), header-other 4 (omega arith), header-mark) refl

  rows_are : rows_of b' ≡ set (rows_of b) header_row header
  unfolding header
  rows_are = r.rows

  -- the list is cut, or goes on behind its end, after x places of its row
  pub recounted-list : Becomes b b' (with_active (state_of b) (take x (row (rows_of b) active_row)))
  recounted-list = record {
    formed = formed-of b' r.laid (rw rows_are counted-packed) (rw rows_are counted-graph);
    state = unfold state_of in (rw rows_are counted-state);
    vertices = r.vertices;
    edges = r.edges;
    sides = r.sides;
    nodes = r.nodes;
    len = r.len;
  }

  pub list-cut : x ≤ length (state_of b).active → Becomes b b' (with_active (state_of b) (take x (state_of b).active))
  list-cut h =
      let e : take x (state_of b).active ≡ take x (row (rows_of b) active_row) =
      ap (take x) (active-of b f.laid) ∙ take-front x (length (state_of b).active) (row (rows_of b) active_row) h in
      rw e recounted-list
    where
      take-front : (n m : ℕ) (l : List ℕ) → n ≤ m → take n (take m l) ≡ take n l
      take-front n m l h = take-take n m l h

-- ---- one more

module _
    (b₀ b₁ b : List ℤ)
    (f : Formed b₀)
    (k n : ℕ)
    (e : k ≡ length (state_of b₀).active)
    (room : k < (state_of b₀).node_limit)
    (p : Rowed active_row b₀ b₁ (set (row (rows_of b₀) active_row) k n))
    (r : ActiveRecounted b₁ b (k + 1))
  where
    behind-state : state_from (set (rows_of b₀) active_row (set (row (rows_of b₀) active_row) k n)) ≡ state_of b₀
    unfolding state_of state_from rows_of rows
    behind-state =
        let c : get_or (row (rows_of b₀) header_row) 5 0 ≤ k = omega (arith, active-count b₀ f.laid, e) in
        rw (take-set-le (get_or (row (rows_of b₀) header_row) 5 0) (row (rows_of b₀) active_row) k n c) refl

    behind-list : Becomes b₀ b₁ (state_of b₀)
    behind-list = becomes-row p (same-packed b₀ b₁ f k n p) (same_graph b₀ b₁ f k n p) behind-state

    row_room : k < length (row (rows_of b₀) active_row)
    unfolding Laid offset
    row_room = omega (arith, rows-length b₀ active_row (omega (arith, f.laid.sized)), f.laid.counted.node-limit)

    pub list_pushed : Becomes b₀ b (with_active (state_of b₀) ((state_of b₀).active ++ (n ∷ [])))
    list_pushed =
        let q = recounted-list b₁ b behind-list.formed (k + 1) r in
        let w : row (rows_of b₁) active_row ≡ set (row (rows_of b₀) active_row) k n = rowed-row (omega arith) p in
        let a : (state_of b₀).active ≡ take k (row (rows_of b₀) active_row) = rw e (active-of b₀ f.laid) in
        let z : take (k + 1) (row (rows_of b₁) active_row) ≡ (state_of b₀).active ++ (n ∷ []) = rw (w, a, add-one) (take-suc-set (row (rows_of b₀) active_row) k n row_room) in
        becomes-then behind-list (rw (z, behind-list.state) at q)
