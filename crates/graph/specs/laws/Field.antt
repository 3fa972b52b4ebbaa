-- What a write of one place of one row does to the state, field by field. A field that is a row is read as it stands:
-- under `unfolding state_of stateFrom` the state's list is the row.
use Prim.Native.Nat.{ℕ, zero, suc, ◌+◌, ◌*◌, ◌/◌, ◌%◌, ◌≤◌, ◌<◌}
use Rattle.std.proofs.Common.{arith, ap, ◌∙◌, get_or-set_same, get_or-set_other, lt-ltb, ltb-true, leb-true, le-leb}
use Rattle.std.specs.Prelude.{◌≡◌, Bool, true, List, [], ◌∷◌, map, ℤ, ltb, leb, set, take}
use Rattle.std.proofs.Math.Path.{refl, sym}
use Rattle.std.proofs.Math.ListN.{get_or, get_or-map}
use Rattle.std.proofs.Math.Seq.{get_or-take, take-set-lt, map-set_same}
use Rattle.graph.specs.Basic.{all}
use Rattle.graph.specs.laws.Members.{both, all-at, all_first, all_others}
use Rattle.graph.specs.State.{defect_vertex, vertex_count, edge_count, side_count, node_count, end_at, weight_at, virtual_at, defect_at, class_of, grow_state_of, parent_of, dual_of, with_graph, with_vertices, with_sides, with_nodes, with_edge_weight, with_reweighted, with_growth, with_holder, with_grandson, with_defect, with_vertex_holder, with_vertex_grandson, with_class, with_grow_state, with_parent, with_dual}
use Rattle.graph.specs.Open.{weight_limit}
use Rattle.graph.specs.Rows.{rows, offset, header_row, flags_row, vertex_holder_row, vertex_grandson_row, end_row, growth_row, holder_row, grandson_row, weight_row, class_row, grow_state_row, parent_row, dual_row}
use Rattle.graph.specs.Layout.{rows_of, row, class_from, state_from, state_of}
use Rattle.graph.specs.Form.{Laid, Listed, Wired, Formed}
use Rattle.graph.specs.inner.Form.{Rowed, Becomes}
use Rattle.graph.specs.laws.Row.{header-get, rows-length, becomes-row}

-- ---- sides and edges

pub end_below : (b : List ℤ) (s : ℕ) → Formed b → s < side_count (state_of b) → end_at (state_of b) s < vertex_count (state_of b)
unfolding Laid Wired state_of state_from offset
end_below b s f h =
    let e = header-get b 0 (omega arith) in
    omega (
      arith,
      f.laid.counted.vertices,
      e,
      ltb-true (get_or (row (rows_of b) end_row) s 0) (get_or (row (rows_of b) header_row) 0 0)
          (all-at (λ x. ltb x (get_or (row (rows_of b) header_row) 0 0)) (row (rows_of b) end_row) s f.wired.ends h),
    )

pub weight-below : (b : List ℤ) (e : ℕ) → Formed b → e < edge_count (state_of b) → weight_at (state_of b) e ≤ 1000000
unfolding Wired state_of state_from
weight-below b e f h = leb-true _ _ (all-at (λ x. leb x weight_limit) (row (rows_of b) weight_row) e f.wired.weights h)

-- a weight in range put among such
all_set : (p : ℕ → Bool) (l : List ℕ) (i x : ℕ) → all p l ≡ true → p x ≡ true → all p (set l i x) ≡ true
unfolding all
all_set p [] i x h k = h
all_set p (y ∷ l) zero x h k = both (p x) (all p l) k (all_others p y l h)
all_set p (y ∷ l) (suc i) x h k = both (p y) (all p (set l i x)) (all_first p y l h) (all_set p l i x (all_others p y l h) k)

pub weight-put : {b₀ b : List ℤ} (e x : ℕ) → Formed b₀ → x ≤ 1000000 → Rowed weight_row b₀ b (set (row (rows_of b₀) weight_row) e x)
    → Becomes b₀ b (with_edge_weight (state_of b₀) e x)
unfolding Listed Wired rows_of rows state_of state_from with_edge_weight with_graph
weight-put {b₀} {b} e x f h q =
    let g = f.wired in
    becomes-row q f.listed
    (record {
      ends = g.ends;
      sides = g.sides;
      firsts = g.firsts;
      weights = all_set (λ z. leb z weight_limit) (row (rows_of b₀) weight_row) e x g.weights (le-leb x weight_limit h);
      originals = g.originals;
    })
    refl

-- the mark of changed weights alone: the sizes and counts of the header stay
pub mark-put : {b₀ b : List ℤ} (x : ℕ) → Formed b₀ → Rowed header_row b₀ b (set (row (rows_of b₀) header_row) 6 x)
    → Becomes b₀ b (with_reweighted (state_of b₀) x)
unfolding Listed Wired Laid rows_of rows state_of state_from with_reweighted with_graph offset
mark-put {b₀} {b} x f q =
    let h : List ℕ = row (rows_of b₀) header_row in
    let still : (i : ℕ) → i < 6 → get_or (set h 6 x) i 0 ≡ get_or h i 0 = λ i k. get_or-set_other h 6 i x 0 (λ z. omega arith) in
    let here : get_or (set h 6 x) 6 0 ≡ x = get_or-set_same h 6 x 0 (omega (arith, rows-length b₀ header_row (omega (arith, f.laid.sized.len)))) in
    let h₀ = still 0 (omega arith) in
    let h₁ = still 1 (omega arith) in
    let h₂ = still 2 (omega arith) in
    let h₃ = still 3 (omega arith) in
    let h₄ = still 4 (omega arith) in
    let h₅ = still 5 (omega arith) in
    let p = f.listed in
    let g = f.wired in
    becomes-row q
    (record { count-max = rw (h₄, h₂) p.count-max; starts = rw h₄ p.starts; total = rw (h₄, h₃) p.total })
    (record {
      ends = rw h₀ g.ends;
      sides = rw h₀ g.sides;
      firsts = rw h₁ g.firsts;
      weights = g.weights;
      originals = g.originals;
    })
    (rw (h₄, h₀, h₂, h₃, h₅, here))

module _ {b₀ b : List ℤ} (s x : ℕ) (f : Formed b₀) where
  pub growth-put : Rowed growth_row b₀ b (set (row (rows_of b₀) growth_row) s x) → Becomes b₀ b (with_growth (state_of b₀) s x)
  unfolding Listed Wired rows_of rows state_of state_from with_growth with_sides
  growth-put q = becomes-row q f.listed f.wired refl

  pub holder-put : Rowed holder_row b₀ b (set (row (rows_of b₀) holder_row) s x) → Becomes b₀ b (with_holder (state_of b₀) s x)
  unfolding Listed Wired rows_of rows state_of state_from with_holder with_sides
  holder-put q = becomes-row q f.listed f.wired refl

  pub grandson-put : Rowed grandson_row b₀ b (set (row (rows_of b₀) grandson_row) s x) → Becomes b₀ b (with_grandson (state_of b₀) s x)
  unfolding Listed Wired rows_of rows state_of state_from with_grandson with_sides
  grandson-put q = becomes-row q f.listed f.wired refl

  pub vertex-holder-put : Rowed vertex_holder_row b₀ b (set (row (rows_of b₀) vertex_holder_row) s x) → Becomes b₀ b (with_vertex_holder (state_of b₀) s x)
  unfolding Listed Wired rows_of rows state_of state_from with_vertex_holder with_vertices
  vertex-holder-put q = becomes-row q f.listed f.wired refl

  pub vertex-grandson-put : Rowed vertex_grandson_row b₀ b (set (row (rows_of b₀) vertex_grandson_row) s x) → Becomes b₀ b (with_vertex_grandson (state_of b₀) s x)
  unfolding Listed Wired rows_of rows state_of state_from with_vertex_grandson with_vertices
  vertex-grandson-put q = becomes-row q f.listed f.wired refl

-- ---- flags

pub virtual-read : (b : List ℤ) (v : ℕ) → get_or (row (rows_of b) flags_row) v 0 % 2 ≡ virtual_at (state_of b) v
unfolding state_of state_from
virtual-read b v = sym (get_or-map (λ x. x % 2) (row (rows_of b) flags_row) v 0)

pub defect-read : (b : List ℤ) (v : ℕ) → get_or (row (rows_of b) flags_row) v 0 / 2 ≡ defect_at (state_of b) v
unfolding state_of state_from
defect-read b v = sym (get_or-map (λ x. x / 2) (row (rows_of b) flags_row) v 0)

pub map-set : {A B : Type 0} (f : A → B) (l : List A) (i : ℕ) (x : A) → map f (set l i x) ≡ set (map f l) i (f x)
map-set f [] i x = refl
map-set f (y ∷ l) zero x = refl
map-set f (y ∷ l) (suc i) x = ap (λ r. f y ∷ r) (map-set f l i x)

-- the defect flag alone: the other flag stays
pub defect-put : {b₀ b : List ℤ} (v x : ℕ) → Formed b₀
    → Rowed flags_row b₀ b (set (row (rows_of b₀) flags_row) v (get_or (row (rows_of b₀) flags_row) v 0 % 2 + 2 * x))
    → Becomes b₀ b (with_defect (state_of b₀) v x)
unfolding Listed Wired rows_of rows state_of state_from with_defect with_vertices
defect-put {b₀} {b} v x f q =
    let l : List ℕ = row (rows_of b₀) flags_row in
    let y : ℕ = get_or l v 0 % 2 + 2 * x in
    let virtual : map (λ z. z % 2) (set l v y) ≡ map (λ z. z % 2) l = map-set_same (λ z. z % 2) l v y 0 (omega arith) in
    let d : y / 2 ≡ x = omega arith in
    let defect : map (λ z. z / 2) (set l v y) ≡ set (map (λ z. z / 2) l) v x = map-set (λ z. z / 2) l v y ∙ ap (set (map (λ z. z / 2) l) v) d in
    becomes-row q f.listed f.wired (rw (virtual, defect))

-- ---- nodes: of their rows the first `count` words count

module _ (b : List ℤ) (q : Laid b) (n : ℕ) (h : n < node_count (state_of b)) where
  below-count : n < get_or (row (rows_of b) header_row) 4 0
  unfolding Laid
  below-count = omega (arith, header-get b 4 (omega arith), q.counted.nodes)

  pub class-read : class_from (vertex_count (state_of b)) (get_or (row (rows_of b) class_row) n 0) ≡ class_of (state_of b) n
  unfolding Laid state_of state_from
  class-read =
      let k : ℕ = get_or (row (rows_of b) header_row) 4 0 in
      let v : vertex_count (state_of b) ≡ get_or (row (rows_of b) header_row) 0 0 = q.counted.vertices ∙ sym (header-get b 0 (omega arith)) in
      let first : class_from (get_or (row (rows_of b) header_row) 0 0) 0 ≡ defect_vertex 0 = unfold class_from in
      rw (lt-ltb 0 (get_or (row (rows_of b) header_row) 0 0) (omega (arith, header-get b 0 (omega arith)))) in
      rw (
        v,
        ← get_or-take k (row (rows_of b) class_row) n 0 below-count,
        ← get_or-map (class_from (get_or (row (rows_of b) header_row) 0 0)) (take k (row (rows_of b) class_row)) n 0,
        first,
      )

  pub grow-state-read : get_or (row (rows_of b) grow_state_row) n 0 ≡ grow_state_of (state_of b) n
  unfolding state_of state_from
  grow-state-read = sym (get_or-take _ (row (rows_of b) grow_state_row) n 0 below-count)

  pub parent-read : get_or (row (rows_of b) parent_row) n 0 ≡ parent_of (state_of b) n
  unfolding state_of state_from
  parent-read = sym (get_or-take _ (row (rows_of b) parent_row) n 0 below-count)

  pub dual-read : get_or (row (rows_of b) dual_row) n 0 ≡ dual_of (state_of b) n
  unfolding state_of state_from
  dual-read = sym (get_or-take _ (row (rows_of b) dual_row) n 0 below-count)

module _ {b₀ b : List ℤ} (n x : ℕ) (f : Formed b₀) (h : n < node_count (state_of b₀)) where
  pub grow-state-put : Rowed grow_state_row b₀ b (set (row (rows_of b₀) grow_state_row) n x) → Becomes b₀ b (with_grow_state (state_of b₀) n x)
  unfolding Listed Wired rows_of rows state_of state_from with_grow_state with_nodes
  grow-state-put q =
      becomes-row q f.listed f.wired
      (rw (take-set-lt (get_or (row (rows_of b₀) header_row) 4 0) (row (rows_of b₀) grow_state_row) n x (below-count b₀ f.laid n h)))

  pub class-put : Rowed class_row b₀ b (set (row (rows_of b₀) class_row) n x)
      → Becomes b₀ b (with_class (state_of b₀) n (class_from (vertex_count (state_of b₀)) x))
  unfolding Listed Wired Laid rows_of rows state_of state_from with_class with_nodes
  class-put q =
      let k : ℕ = get_or (row (rows_of b₀) header_row) 4 0 in
      let v : vertex_count (state_of b₀) ≡ get_or (row (rows_of b₀) header_row) 0 0 =
      f.laid.counted.vertices ∙ sym (header-get b₀ 0 (omega arith)) in
      becomes-row q f.listed f.wired
      (rw (
        v,
        take-set-lt k (row (rows_of b₀) class_row) n x (below-count b₀ f.laid n h),
        map-set (class_from (get_or (row (rows_of b₀) header_row) 0 0)) (take k (row (rows_of b₀) class_row)) n x,
      ))

  pub parent-put : Rowed parent_row b₀ b (set (row (rows_of b₀) parent_row) n x) → Becomes b₀ b (with_parent (state_of b₀) n x)
  unfolding Listed Wired rows_of rows state_of state_from with_parent with_nodes
  parent-put q = becomes-row q f.listed f.wired (rw (take-set-lt (get_or (row (rows_of b₀) header_row) 4 0) (row (rows_of b₀) parent_row) n x (below-count b₀ f.laid n h)))

  pub dual-put : Rowed dual_row b₀ b (set (row (rows_of b₀) dual_row) n x) → Becomes b₀ b (with_dual (state_of b₀) n x)
  unfolding Listed Wired rows_of rows state_of state_from with_dual with_nodes
  dual-put q = becomes-row q f.listed f.wired (rw (take-set-lt (get_or (row (rows_of b₀) header_row) 4 0) (row (rows_of b₀) dual_row) n x (below-count b₀ f.laid n h)))
