-- What a block in form has: the lengths of its state's lists.
use Prim.Native.Nat.{ℕ, zero, suc, ◌+◌, ◌*◌, ◌/◌, ◌≤◌, ◌<◌}
use Rattle.std.proofs.Common.{arith, sym, ap, ◌∙◌, length-take, get_or-take}
use Rattle.std.specs.Prelude.{◌≡◌, true, List, [], ◌∷◌, map, ℤ, length, get_or, take, drop}
use Rattle.std.proofs.Math.Path.{refl}
use Rattle.std.proofs.Math.Dec.{ltb}
use Rattle.std.proofs.lemmas.List.{length-map}
use borrow.Author.Tests.{lt-ltb}
use Rattle.graph.specs.Basic.{all, below}
use Rattle.graph.specs.State.{vertex_count, edge_count, side_count, node_count, sides_at}
use Rattle.graph.specs.Open.{sides_of}
use Rattle.graph.specs.Word.{word_at}
use Rattle.graph.specs.Rows.{offset, header_row, flags_row, vertex_holder_row, vertex_grandson_row, first_row, end_row, growth_row, holder_row, grandson_row, at_row, class_row, parent_row, dual_row, boundary_length_row, overgrown_length_row, store_row, active_row, original_row}
use Rattle.graph.specs.Layout.{state_of, state_from, rows_of, row, class_from, stretches, boundaries, stacks, count_of, n_of}
use Rattle.graph.specs.Form.{Laid, Wired, Formed}
use Rattle.graph.specs.laws.Members.{all_from}
use Rattle.graph.specs.laws.Shape.{sides-of-out}
use Rattle.graph.specs.Shape.{Shape}
use Rattle.graph.specs.laws.Row.{rows-length, rows_get, header-get}
use Rattle.graph.specs.inner.Found.{InRow}

length-stretches : (fs l : List ℕ) → length (stretches fs l) ≡ length fs
unfolding stretches
length-stretches [] l = refl
length-stretches (f ∷ fs) l = ap suc (length-stretches fs l)

length-boundaries : (bs os l : List ℕ) (k : ℕ) → length bs ≡ k → length os ≡ k → length (boundaries bs os l) ≡ k
unfolding boundaries
length-boundaries [] os l k x y = x
length-boundaries (b ∷ bs) [] l k x y = absurd (omega arith)
length-boundaries (b ∷ bs) (o ∷ os) l zero x y = absurd (omega arith)
length-boundaries (b ∷ bs) (o ∷ os) l (suc k) x y = ap suc (length-boundaries bs os (drop (b + o) l) k (omega arith) (omega arith))

length-stacks : (bs os l : List ℕ) (k : ℕ) → length bs ≡ k → length os ≡ k → length (stacks bs os l) ≡ k
unfolding stacks
length-stacks [] os l k x y = x
length-stacks (b ∷ bs) [] l k x y = absurd (omega arith)
length-stacks (b ∷ bs) (o ∷ os) l zero x y = absurd (omega arith)
length-stacks (b ∷ bs) (o ∷ os) l (suc k) x y = ap suc (length-stacks bs os (drop (b + o) l) k (omega arith) (omega arith))

-- a row over nodes, cut at the number of nodes
cut-length : (b : List ℤ) (l : List ℕ) → Laid b → length l ≡ n_of b → length (take (get_or (row (rows_of b) header_row) 4 0) l) ≡ node_count (state_of b)
unfolding Laid
cut-length b l q e =
    let c : get_or (row (rows_of b) header_row) 4 0 ≡ count_of b = header-get b 4 (omega arith) in
    length-take (get_or (row (rows_of b) header_row) 4 0) l ∙ omega (arith, q.counted.nodes, q.counted.count-max)

pub laid-shape : (b : List ℤ) → Laid b → Shape (state_of b)
unfolding Laid state_of state_from offset
laid-shape b q =
    let count : ℕ = get_or (row (rows_of b) header_row) 4 0 in
    let k = q.counted in
    let bs : length (take count (row (rows_of b) boundary_length_row)) ≡ node_count (state_of b) = cut-length b (row (rows_of b) boundary_length_row) q (rows-length b boundary_length_row (omega arith)) in
    let os : length (take count (row (rows_of b) overgrown_length_row)) ≡ node_count (state_of b) = cut-length b (row (rows_of b) overgrown_length_row) q (rows-length b overgrown_length_row (omega arith)) in
    record {
      end = k.sides ∙ ap (λ e. 2 * e) (sym k.edges);
      original = rows-length b original_row (omega arith) ∙ sym k.edges;
      at = length-stretches (row (rows_of b) first_row) (row (rows_of b) at_row) ∙ rows-length b first_row (omega arith) ∙ sym k.vertices;
      defect = length-map (row (rows_of b) flags_row) (λ x. x / 2) ∙ rows-length b flags_row (omega arith) ∙ sym k.vertices;
      vertex_holder = rows-length b vertex_holder_row (omega arith) ∙ sym k.vertices;
      vertex_grandson = rows-length b vertex_grandson_row (omega arith) ∙ sym k.vertices;
      growth = rows-length b growth_row (omega arith) ∙ sym k.sides;
      holder = rows-length b holder_row (omega arith) ∙ sym k.sides;
      grandson = rows-length b grandson_row (omega arith) ∙ sym k.sides;
      class = length-map (take count (row (rows_of b) class_row)) (class_from (get_or (row (rows_of b) header_row) 0 0))
          ∙ cut-length b (row (rows_of b) class_row) q (rows-length b class_row (omega arith));
      parent = cut-length b (row (rows_of b) parent_row) q (rows-length b parent_row (omega arith));
      dual = cut-length b (row (rows_of b) dual_row) q (rows-length b dual_row (omega arith));
      boundary = length-boundaries (take count (row (rows_of b) boundary_length_row)) (take count (row (rows_of b) overgrown_length_row)) (row (rows_of b) store_row) (node_count (state_of b)) bs os;
      overgrown = length-stacks (take count (row (rows_of b) boundary_length_row)) (take count (row (rows_of b) overgrown_length_row)) (row (rows_of b) store_row) (node_count (state_of b)) bs os;
    }

laid-vertices : (b : List ℤ) → Laid b → 1 ≤ vertex_count (state_of b)
unfolding Laid
laid-vertices b q = omega (arith, q.sized.v-min, q.counted.vertices)

-- a block in form: the lengths of its lists, and at least one vertex
pub formed-shape : (b : List ℤ) → Formed b → Shape (state_of b)
formed-shape b f = laid-shape b f.laid

pub formed-vertices : (b : List ℤ) → Formed b → 1 ≤ vertex_count (state_of b)
formed-vertices b f = laid-vertices b f.laid

-- how many nodes a block may have
pub laid-nodes : (b : List ℤ) → Laid b → (state_of b).node_limit ≤ 1024
unfolding Laid
laid-nodes b q = omega (arith, q.counted.node-limit, q.sized.n-max)

-- each side has a growth
pub formed-growths : (b : List ℤ) → Formed b → length (state_of b).sides.growth ≡ 2 * edge_count (state_of b)
formed-growths b f = (formed-shape b f).growth ∙ f.pairs

-- the sides at a vertex are sides
pub formed-sides : (b : List ℤ) → Formed b → (v : ℕ) → all (λ t. ltb t (side_count (state_of b))) (sides_at (state_of b) v) ≡ true
unfolding Wired state_of state_from
formed-sides b f v = rw f.wired.sides (each (row (rows_of b) end_row) (below (get_or (row (rows_of b) header_row) 0 0)) v)
  where
    each : (ends vs : List ℕ) (v : ℕ) → all (λ t. ltb t (length ends)) (get_or (map (sides_of ends) vs) v []) ≡ true
    each ends [] v = unfold all in refl
    each ends (u ∷ vs) zero = all_from (λ t. ltb t (length ends)) (sides_of ends u) (λ t m. lt-ltb t (length ends) (sides-of-out ends u t m).0)
    each ends (u ∷ vs) (suc v) = each ends vs v

-- place i of the active list
pub active-entry : (b : List ℤ) (i p : ℕ) → i < length (state_of b).active → InRow b 19 i p → word_at b p ≡ get_or (state_of b).active i 0
unfolding state_of state_from
active-entry b i p h s =
    let k : ℕ = get_or (row (rows_of b) header_row) 5 0 in
    let j : i < k = omega (arith, h, length-take k (row (rows_of b) active_row)) in
    rows_get b 19 i p s ∙ sym (get_or-take k (row (rows_of b) active_row) i 0 j)
