-- One more node without lists: the block stays in form and holds the state with that node.
use Prim.Native.Nat.{ℕ, zero, suc, ◌+◌, ◌≤◌, ◌<◌}
use native.Mathlib.Omega.{arith}
use Rattle.std.proofs.Common.{add-one, ◌∙◌, length-append, get_or-set_same, get_or-set_other, take-suc-set, length-take-le}
use Rattle.std.specs.Prelude.{◌≡◌, refl, ℤ, length, drop}
use Rattle.std.proofs.Math.Path.{sym, ap}
use mathlib.Core.List.{List, [], ◌∷◌, ◌++◌, map}
use Rattle.std.proofs.Math.ListN.{set, get_or, take, get_or-append}
use Rattle.std.proofs.lemmas.List.{get_or_at, set_at}
use Rattle.graph.specs.Basic.{sum_below}
use Rattle.graph.specs.State.{State, NodeClass, vertex_count, node_count, with_nodes, with_node, with_boundary, with_overgrown}
use Rattle.graph.specs.Sound.{entries, entries_of}
use Rattle.graph.specs.Rows.{rows, offset, header_row, class_row, grow_state_row, parent_row, dual_row, start_row, boundary_length_row, overgrown_length_row, store_row}
use Rattle.graph.specs.Layout.{rows_of, row, class_from, stack_from, boundaries, stacks, state_from, state_of}
use Rattle.graph.specs.Form.{Laid, Listed, Wired, PackedRows, GraphRows, Formed, starts_from, total_from}
use Rattle.graph.specs.inner.Form.{Rowed, Becomes}
use Rattle.graph.specs.inner.Replace.{with_lists}
use Rattle.graph.specs.inner.Recounted.{Recounted}
use Rattle.graph.specs.Node.{new_node}
use Rattle.graph.specs.declared.dual_node.DualNode.{DualNode}
use Rattle.graph.specs.inner.Insert.{Inserted, put, head_put, tail_put}
use Rattle.graph.specs.laws.Row.{header-get, rows-length, formed-of, state-of-rows}
use Rattle.graph.specs.laws.Sums.{sum_same}
use Rattle.graph.specs.Shape.{Shape}
use Rattle.store.specs.laws.Store.{rowed-kept, kept_then}
use Rattle.store.specs.inner.Store.{Rewritten}

-- ---- lists one behind another, and one more

map_snoc : {A B : Type 0} (f : A → B) (xs : List A) (x : A) → map f (xs ++ (x ∷ [])) ≡ map f xs ++ (f x ∷ [])
map_snoc f [] x = refl
map_snoc f (y ∷ xs) x = ap (λ r. f y ∷ r) (map_snoc f xs x)

starts-snoc : (a : ℕ) (bs os : List ℕ) (b o : ℕ) → length bs ≡ length os
    → starts_from a (bs ++ (b ∷ [])) (os ++ (o ∷ [])) ≡ starts_from a bs os ++ (total_from a bs os ∷ [])
unfolding starts_from total_from
starts-snoc a [] [] b o h = refl
starts-snoc a [] (y ∷ os) b o h = absurd (omega arith)
starts-snoc a (x ∷ bs) [] b o h = absurd (omega arith)
starts-snoc a (x ∷ bs) (y ∷ os) b o h = ap (λ r. a ∷ r) (starts-snoc (a + x + y) bs os b o (omega arith))

total-snoc : (a : ℕ) (bs os : List ℕ) (b o : ℕ) → length bs ≡ length os → total_from a (bs ++ (b ∷ [])) (os ++ (o ∷ [])) ≡ total_from a bs os + b + o
unfolding total_from
total-snoc a [] [] b o h = refl
total-snoc a [] (y ∷ os) b o h = absurd (omega arith)
total-snoc a (x ∷ bs) [] b o h = absurd (omega arith)
total-snoc a (x ∷ bs) (y ∷ os) b o h = total-snoc (a + x + y) bs os b o (omega arith)

boundaries-snoc : (bs os l : List ℕ) → length bs ≡ length os → boundaries (bs ++ (0 ∷ [])) (os ++ (0 ∷ [])) l ≡ boundaries bs os l ++ ([] ∷ [])
unfolding boundaries
boundaries-snoc [] [] l h = refl
boundaries-snoc [] (y ∷ os) l h = absurd (omega arith)
boundaries-snoc (x ∷ bs) [] l h = absurd (omega arith)
boundaries-snoc (x ∷ bs) (y ∷ os) l h = ap (λ r. take x l ∷ r) (boundaries-snoc bs os (drop (x + y) l) (omega arith))

stacks-snoc : (bs os l : List ℕ) → length bs ≡ length os → stacks (bs ++ (0 ∷ [])) (os ++ (0 ∷ [])) l ≡ stacks bs os l ++ ([] ∷ [])
unfolding stacks stack_from
stacks-snoc [] [] l h = refl
stacks-snoc [] (y ∷ os) l h = absurd (omega arith)
stacks-snoc (x ∷ bs) [] l h = absurd (omega arith)
stacks-snoc (x ∷ bs) (y ∷ os) l h = ap (λ r. stack_from (take y (drop x l)) ∷ r) (stacks-snoc bs os (drop (x + y) l) (omega arith))

-- ---- rows rewritten, one after another

pub rewritten-put : {k : ℕ} (n x : ℕ) {b₀ b b' : List ℤ} {r : List (List ℕ)} → Rewritten b₀ b r
    → Rowed k b b' (set (row (rows_of b) k) n x) → Rewritten b₀ b' (put k n x r)
rewritten-put {k} n x {b₀} {b} {b'} {r} h q = record { kept = kept_then h.kept (rowed-kept q); rows = q.rows ∙ ap (λ z. put k n x z) h.rows }

pub rewritten-then : {b₀ b₁ b₂ : List ℤ} (f : List (List ℕ) → List (List ℕ)) {r : List (List ℕ)} → Rewritten b₀ b₁ r
    → Rewritten b₁ b₂ (f (rows_of b₁)) → Rewritten b₀ b₂ (f r)
rewritten-then f p q = record { kept = kept_then p.kept q.kept; rows = q.rows ∙ ap f p.rows }

-- ---- the rows of the block

module _ (b₀ b₁ b₂ : List ℤ) (n class x a : ℕ) (f : Formed b₀) (is-count : n ≡ node_count (state_of b₀)) (room : n < (state_of b₀).node_limit)
    (p : Rewritten b₀ b₁ (tail_put n a (head_put n (new_node class x) (rows_of b₀)))) (r : Recounted b₁ b₂ (n + 1))
    (is-start : a ≡ total_from 0 (take n (row (rows_of b₀) boundary_length_row)) (take n (row (rows_of b₀) overgrown_length_row))) where
  header : List ℕ
  header = row (rows_of b₀) header_row

  rows_end : List (List ℕ)
  rows_end = set (put 17 n 0 (put 16 n 0 (put 15 n a (put 14 n 0 (put 13 n 0 (put 12 n x (put 11 n class (rows_of b₀)))))))) 0 (set header 4 (n + 1))

  rows_end_lem : rows_of b₂ ≡ rows_end
  unfolding rows_of rows rows_end header
  rows_end_lem = r.rows ∙ ap (λ z. set z 0 (set (row z header_row) 4 (n + 1))) p.rows

  header-length : length header ≡ 16
  unfolding Laid offset header
  header-length = rows-length b₀ header_row (omega (arith, f.laid.sized))

  header-count : get_or (set header 4 (n + 1)) 4 0 ≡ n + 1
  header-count = get_or-set_same header 4 (n + 1) 0 (omega (arith, header-length))

  header-other : (i : ℕ) → (i ≡ 4 → ⊥) → get_or (set header 4 (n + 1)) i 0 ≡ get_or header i 0
  header-other i h = get_or-set_other header 4 i (n + 1) 0 h

  count-then : get_or header 4 0 ≡ n
  unfolding Laid header
  count-then = header-get b₀ 4 (omega arith) ∙ sym f.laid.counted.nodes ∙ sym is-count

  limit-then : get_or header 2 0 ≡ (state_of b₀).node_limit
  unfolding Laid header
  limit-then = header-get b₀ 2 (omega arith) ∙ sym f.laid.counted.node-limit

  row-length : (k : ℕ) → k < 7 → n < length (row (rows_of b₀) (11 + k))
  unfolding Laid offset
  row-length zero h = omega (arith, rows-length b₀ class_row (omega (arith, f.laid.sized)), f.laid.counted.node-limit, room)
  row-length (suc zero) h = omega (arith, rows-length b₀ grow_state_row (omega (arith, f.laid.sized)), f.laid.counted.node-limit, room)
  row-length (suc (suc zero)) h = omega (arith, rows-length b₀ parent_row (omega (arith, f.laid.sized)), f.laid.counted.node-limit, room)
  row-length (suc (suc (suc zero))) h = omega (arith, rows-length b₀ dual_row (omega (arith, f.laid.sized)), f.laid.counted.node-limit, room)
  row-length (suc (suc (suc (suc zero)))) h = omega (arith, rows-length b₀ start_row (omega (arith, f.laid.sized)), f.laid.counted.node-limit, room)
  row-length (suc (suc (suc (suc (suc zero))))) h = omega (arith, rows-length b₀ boundary_length_row (omega (arith, f.laid.sized)), f.laid.counted.node-limit, room)
  row-length (suc (suc (suc (suc (suc (suc zero)))))) h = omega (arith, rows-length b₀ overgrown_length_row (omega (arith, f.laid.sized)), f.laid.counted.node-limit, room)
  row-length (suc (suc (suc (suc (suc (suc (suc k))))))) h = absurd (omega arith)

  -- one more word counts in a row over nodes
  one_more : (k y : ℕ) → k < 7 → take (n + 1) (set (row (rows_of b₀) (11 + k)) n y) ≡ take n (row (rows_of b₀) (11 + k)) ++ (y ∷ [])
  one_more k y h = rw add-one (take-suc-set (row (rows_of b₀) (11 + k)) n y (row-length k h))

  cut-length : (k : ℕ) → k < 7 → length (take n (row (rows_of b₀) (11 + k))) ≡ n
  cut-length k h = length-take-le n (row (rows_of b₀) (11 + k)) (omega (arith, row-length k h))

  same_length : length (take n (row (rows_of b₀) boundary_length_row)) ≡ length (take n (row (rows_of b₀) overgrown_length_row))
  same_length = cut-length 5 (omega arith) ∙ sym (cut-length 6 (omega arith))

  packed-end : PackedRows rows_end
  unfolding Listed rows_of rows rows_end header
  packed-end =
      let q = f.listed in
      let bs : List ℕ = take n (row (rows_of b₀) boundary_length_row) in
      let os : List ℕ = take n (row (rows_of b₀) overgrown_length_row) in
      let s : take n (row (rows_of b₀) start_row) ≡ starts_from 0 bs os = rw count-then at q.starts in
      let t : total_from 0 bs os ≤ get_or header 3 0 = rw count-then at q.total in
      let z : total_from 0 bs os + 0 + 0 ≡ total_from 0 bs os = omega arith in
      record {
        count-max = rw (header-count, header-other 2 (λ e. omega arith), limit-then) (omega arith);
        starts = rw (
          header-count,
          one_more 4 a (omega arith),
          one_more 5 0 (omega arith),
          one_more 6 0 (omega arith),
          starts-snoc 0 bs os 0 0 same_length,
          s,
          is-start,
        );
        total = rw (
          header-count,
          one_more 5 0 (omega arith),
          one_more 6 0 (omega arith),
          total-snoc 0 bs os 0 0 same_length,
          z,
          header-other 3 (λ e. omega arith),
        )
            t;
      }

  graph-end : GraphRows rows_end
  unfolding Wired rows_of rows rows_end header
  graph-end =
      let g = f.wired in
      record {
        ends = rw (header-other 0 (λ e. omega arith)) g.ends;
        sides = rw (header-other 0 (λ e. omega arith)) g.sides;
        firsts = rw (header-other 1 (λ e. omega arith)) g.firsts;
        weights = g.weights;
        originals = g.originals;
      }

  vertices-then : get_or header 0 0 ≡ vertex_count (state_of b₀)
  unfolding Laid header
  vertices-then = header-get b₀ 0 (omega arith) ∙ sym f.laid.counted.vertices

  state-end : state_from rows_end ≡ with_node (state_of b₀) (class_from (vertex_count (state_of b₀)) class) x []
  unfolding rows_of rows rows_end header state_of state_from with_node with_nodes
  state-end =
      rw (
        header-count,
        header-other 0 (λ e. omega arith),
        header-other 2 (λ e. omega arith),
        header-other 3 (λ e. omega arith),
        header-other 5 (λ e. omega arith),
        header-other 6 (λ e. omega arith),
        one_more 0 class (omega arith),
        one_more 1 x (omega arith),
        one_more 2 0 (omega arith),
        one_more 3 0 (omega arith),
        one_more 5 0 (omega arith),
        one_more 6 0 (omega arith),
        boundaries-snoc (take n (row (rows_of b₀) boundary_length_row)) (take n (row (rows_of b₀) overgrown_length_row)) (row (rows_of b₀) store_row) same_length,
        stacks-snoc (take n (row (rows_of b₀) boundary_length_row)) (take n (row (rows_of b₀) overgrown_length_row)) (row (rows_of b₀) store_row) same_length,
        map_snoc (class_from (get_or header 0 0)) (take n (row (rows_of b₀) class_row)) class,
        count-then,
        vertices-then,
      )

  pub pushed-empty : Inserted b₀ b₂ (with_node (state_of b₀) (class_from (vertex_count (state_of b₀)) class) x [])
  pushed-empty = record {
    formed = formed-of b₂ r.laid (rw rows_end_lem packed-end) (rw rows_end_lem graph-end);
    state = state-of-rows b₂ rows_end rows_end_lem ∙ state-end;
    vertices = r.vertices ∙ p.kept.vertices;
    edges = r.edges ∙ p.kept.edges;
    sides = r.sides ∙ p.kept.sides;
    nodes = r.nodes ∙ ap (λ k. k + 1) is-count;
    len = r.len ∙ p.kept.len;
  }

-- ---- the limits stay

pub head-limit : {b₀ b : List ℤ} (n : ℕ) (d : DualNode) → Rewritten b₀ b (head_put n d (rows_of b₀)) → (state_of b).node_limit ≡ (state_of b₀).node_limit
unfolding rows_of rows state_of state_from
head-limit n d p = ap (λ z. get_or (row z header_row) 2 0) p.rows

pub tail-limit : {b₀ b : List ℤ} (n a : ℕ) → Rewritten b₀ b (tail_put n a (rows_of b₀)) → (state_of b).node_limit ≡ (state_of b₀).node_limit
unfolding rows_of rows state_of state_from
tail-limit n a p = ap (λ z. get_or (row z header_row) 2 0) p.rows

-- ---- the lists of the new node

new-lists : (c : State) (p : NodeClass) (x n : ℕ) (l : List ℕ) → length c.nodes.boundary ≡ n
    → length c.nodes.overgrown ≡ n → with_lists (with_node c p x []) n l 0 [] ≡ with_node c p x l
unfolding with_lists with_node with_nodes with_boundary with_overgrown stack_from
new-lists c p x n l hb ho =
    rw (get_or_at c.nodes.overgrown [] [] [] n ho, set_at c.nodes.boundary [] [] l n hb, set_at c.nodes.overgrown [] [] [] n ho)

pub pushed-lists : {b₀ b₁ b₂ : List ℤ} (p : NodeClass) (x n : ℕ) (l : List ℕ) → Shape (state_of b₀)
    → n ≡ node_count (state_of b₀) → Inserted b₀ b₁ (with_node (state_of b₀) p x [])
    → Becomes b₁ b₂ (with_lists (state_of b₁) n l 0 []) → Inserted b₀ b₂ (with_node (state_of b₀) p x l)
pushed-lists {b₀} {b₁} {b₂} p x n l z e i w = record {
  formed = w.formed;
  state = w.state ∙ rw i.state (new-lists (state_of b₀) p x n l (z.boundary ∙ sym e) (z.overgrown ∙ sym e));
  vertices = w.vertices ∙ i.vertices;
  edges = w.edges ∙ i.edges;
  sides = w.sides ∙ i.sides;
  nodes = w.nodes ∙ i.nodes;
  len = w.len ∙ i.len;
}

-- the new node has the only new entries
pub entries-new : (c : State) (p : NodeClass) (x : ℕ) → Shape c → entries (with_node c p x []) ≡ entries c + entries_of (with_node c p x []) (node_count c)
unfolding entries entries_of with_node with_nodes sum_below
entries-new c p x z =
    rw (length-append c.nodes.grow_state (x ∷ []), add-one)
    (ap (λ k. k + entries_of (with_node c p x []) (node_count c)) (sum_same (entries_of (with_node c p x [])) (entries_of c) (node_count c)
    (λ i h. rw (
      get_or-append c.nodes.boundary ([] ∷ []) [] i (omega (arith, z.boundary)),
      get_or-append c.nodes.overgrown ([] ∷ []) [] i (omega (arith, z.overgrown)),
    ))))

pub new-room : {b₀ b₁ : List ℤ} (p : NodeClass) (x n k : ℕ) → Shape (state_of b₀) → n ≡ node_count (state_of b₀)
    → Inserted b₀ b₁ (with_node (state_of b₀) p x []) → entries (state_of b₀) + k ≤ (state_of b₀).store_limit
    → entries (state_of b₁) + (k + 0 + 0) ≤ (state_of b₁).store_limit + entries_of (state_of b₁) n
new-room {b₀} {b₁} p x n k z e i h =
    let limit : (with_node (state_of b₀) p x []).store_limit ≡ (state_of b₀).store_limit = (unfold with_node with_nodes in refl) in
    rw (i.state, e) (omega (arith, h, limit, entries-new (state_of b₀) p x z))
