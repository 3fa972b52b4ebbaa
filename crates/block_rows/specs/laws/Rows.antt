-- The parts of a block that are its rows: where they begin, that they lie within it, and what they hold.
use Rattle.std.specs.Prelude.{ℕ, ◌+◌, ◌-◌, ◌*◌, ◌≤◌, ◌<◌, ◌≡◌, List, ℤ, pos, take, drop}
use Rattle.std.proofs.Common.{arith, ap, ◌∙◌, length-drop, length-take-le, get_or-take, get_or-drop}
use Rattle.std.proofs.Math.ListN.{length}
use Rattle.graph.specs.State.{vertex_count, edge_count, side_count}
use Rattle.graph.specs.Layout.{v_of, e_of, n_of, l_of, state_of}
use Rattle.graph.specs.Form.{Laid}
use Rattle.graph.specs.Word.{to_nat, word_at}
use Rattle.graph.specs.inner.Found.{Found}
use Rattle.graph.specs.laws.Row.{rows_get, vertex-found, side-found, edge-found, store_found, original-found}
use Rattle.block_rows.specs.inner.Rows.{RowPart}

-- the n words from place a on are row k, where each of them stands in it
pub part-row : (b : List ℤ) (k a n : ℕ) → a + n ≤ length b → ((i : ℕ) → i < n → Found b k i (a + i)) → RowPart b k n (take n (drop a b))
unfolding word_at
part-row b k a n h f =
    record {
      size = length-take-le n (drop a b) (omega (arith, length-drop a b));
      words = λ i j. ap to_nat (get_or-take n (drop a b) i (pos 0) j ∙ get_or-drop a b i (pos 0)) ∙ rows_get b k i (a + i) (f i j).stands;
    }

-- a row over the vertices
module _ (b : List ℤ) (q : Laid b) (k n : ℕ) (hk : k < 4) (en : n ≡ vertex_count (state_of b)) where
  vertex-at : (v : ℕ) → v < n → Found b (1 + k) v (16 + k * n + v)
  unfolding Laid
  vertex-at v h = let x : n ≡ v_of b = en ∙ q.counted.vertices in rw x (vertex-found b q.sized k v hk (omega (arith, h, x)))

  pub vertex-part-fits : 16 + k * n + n ≤ length b
  unfolding Laid
  vertex-part-fits =
      let x : n ≡ v_of b = en ∙ q.counted.vertices in
      omega (arith, q.sized.v-min, (vertex-at (n - 1) (omega (arith, x, q.sized.v-min))).within)

  pub vertex-part : RowPart b (1 + k) (vertex_count (state_of b)) (take n (drop (16 + k * n) b))
  vertex-part = rw (← en) (part-row b (1 + k) (16 + k * n) n vertex-part-fits vertex-at)

module _ (b : List ℤ) (q : Laid b) (v : ℕ) (ev : v ≡ vertex_count (state_of b)) where
  -- a row over the sides
  module _ (k n : ℕ) (hk : k < 5) (en : n ≡ side_count (state_of b)) where
    side-at : (s : ℕ) → s < n → Found b (5 + k) s (16 + 4 * v + k * n + s)
    unfolding Laid
    side-at s h =
        let x : v ≡ v_of b = ev ∙ q.counted.vertices in
        let y : n ≡ 2 * e_of b = en ∙ q.counted.sides in
        rw (x, y) (side-found b q.sized k s hk (omega (arith, h, y)))

    pub side-part-fits : 16 + 4 * v + k * n + n ≤ length b
    unfolding Laid
    side-part-fits =
        let y : n ≡ 2 * e_of b = en ∙ q.counted.sides in
        let one : 1 ≤ e_of b = q.sized.e-min in
        omega (arith, (side-at (n - 1) (omega arith)).within)

    pub side-part : RowPart b (5 + k) (side_count (state_of b)) (take n (drop (16 + 4 * v + k * n) b))
    side-part = rw (← en) (part-row b (5 + k) (16 + 4 * v + k * n) n side-part-fits side-at)

  -- the weights
  module _ (n : ℕ) (en : n ≡ edge_count (state_of b)) where
    edge-at : (i : ℕ) → i < n → Found b 10 i (16 + 4 * v + 10 * n + i)
    unfolding Laid
    edge-at i h =
        let x : v ≡ v_of b = ev ∙ q.counted.vertices in
        let y : n ≡ e_of b = en ∙ q.counted.edges in
        rw (x, y) (edge-found b q.sized i (omega (arith, h, y)))

    pub edge-part-fits : 16 + 4 * v + 10 * n + n ≤ length b
    unfolding Laid
    edge-part-fits =
        let y : n ≡ e_of b = en ∙ q.counted.edges in
        let one : 1 ≤ e_of b = q.sized.e-min in
        omega (arith, (edge-at (n - 1) (omega arith)).within)

    pub edge-part : RowPart b 10 (edge_count (state_of b)) (take n (drop (16 + 4 * v + 10 * n) b))
    edge-part = rw (← en) (part-row b 10 (16 + 4 * v + 10 * n) n edge-part-fits edge-at)

-- the list store, by what stands behind it: the active list of g words and the original weights of m edges
module _ (b : List ℤ) (q : Laid b) (m g l : ℕ) (em : m ≡ edge_count (state_of b)) (eg : g ≡ (state_of b).node_limit) (el : l ≡ (state_of b).store_limit) where
  pub store-fits : l + g + m ≤ length b
  unfolding Laid
  store-fits = omega (arith, em ∙ q.counted.edges, eg ∙ q.counted.node-limit, el ∙ q.counted.store-limit, q.sized.len)

  store_at : (j : ℕ) → j < l → Found b 18 j (length b - m - g - l + j)
  unfolding Laid
  store_at j h =
      let x : m ≡ e_of b = em ∙ q.counted.edges in
      let y : g ≡ n_of b = eg ∙ q.counted.node-limit in
      let z : l ≡ l_of b = el ∙ q.counted.store-limit in
      let w : length b - m - g - l + j ≡ 16 + 4 * v_of b + 11 * e_of b + 7 * n_of b + j = omega (arith, x, y, z, q.sized.len) in
      rw w (store_found b q.sized j (omega (arith, h, z)))

  pub store-part : RowPart b 18 (state_of b).store_limit (take l (drop (length b - m - g - l) b))
  store-part = rw (← el) (part-row b 18 (length b - m - g - l) l (omega (arith, store-fits)) store_at)

-- the original weights, at the end of the block
module _ (b : List ℤ) (q : Laid b) (n : ℕ) (en : n ≡ edge_count (state_of b)) where
  original-at : (i : ℕ) → i < n → Found b 20 i (length b - n + i)
  unfolding Laid
  original-at i h =
      let y : n ≡ e_of b = en ∙ q.counted.edges in
      let z : length b - n + i ≡ 16 + 4 * v_of b + 11 * e_of b + 8 * n_of b + l_of b + i = omega (arith, y, q.sized.len) in
      rw z (original-found b q.sized i (omega (arith, h, y)))

  pub original-fits : n ≤ length b
  unfolding Laid
  original-fits = omega (arith, en, q.counted.edges, q.sized.len)

  pub original-part : RowPart b 20 (edge_count (state_of b)) (take n (drop (length b - n) b))
  original-part = rw (← en) (part-row b 20 (length b - n) n (omega (arith, original-fits)) original-at)
