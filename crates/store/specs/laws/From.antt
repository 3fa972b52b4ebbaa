-- A row is written from its first place on: the places count up, whatever was written of it so far.
use Rattle.std.specs.Prelude.{ℕ, ◌+◌, ◌*◌, ◌<◌, ◌≤◌, ◌≡◌, List, ℤ}
use Rattle.std.proofs.Common.{arith, ◌∙◌}
use Rattle.std.proofs.Math.Path.{sym}
use Rattle.graph.specs.Rows.{class_row, store_row}
use Rattle.graph.specs.Layout.{v_of, e_of, n_of, l_of, state_of}
use Rattle.graph.specs.Form.{Laid}
use Rattle.graph.specs.inner.Form.{Rowed}
use Rattle.graph.specs.inner.Found.{Found}
use Rattle.graph.specs.laws.Row.{node-found, store_found}

-- a block with a row written has its sizes
record SameSizes (b₀ b : List ℤ) : Type 0 where
  pub v : v_of b ≡ v_of b₀
  pub e : e_of b ≡ e_of b₀
  pub n : n_of b ≡ n_of b₀
  pub l : l_of b ≡ l_of b₀

module _ {k : ℕ} {b₀ b : List ℤ} {w : List ℕ} (q : Laid b₀) (r : Rowed k b₀ b w) where
  same-sizes : SameSizes b₀ b
  unfolding Laid
  same-sizes = record {
    v = sym r.laid.counted.vertices ∙ r.vertices ∙ q.counted.vertices;
    e = sym r.laid.counted.edges ∙ r.edges ∙ q.counted.edges;
    n = sym r.laid.counted.node-limit ∙ r.node-limit ∙ q.counted.node-limit;
    l = sym r.laid.counted.store-limit ∙ r.store-limit ∙ q.counted.store-limit;
  }

  -- from the place a of its first entry in b₀ on
  pub node-from : (j i a : ℕ) → j < 7 → i < (state_of b₀).node_limit → Found b₀ (class_row + j) 0 a → Found b (class_row + j) i (a + i)
  unfolding Laid
  node-from j i a h m f =
      let s = same-sizes in
      let p = (node-found b₀ q.sized j 0 h (omega (arith, m, q.counted.node-limit))).stands.place in
      let e : a + i ≡ 16 + 4 * v_of b + 11 * e_of b + j * n_of b + i = rw (s.v, s.e, s.n) (omega (arith, f.stands.place, p)) in
      rw e (node-found b r.laid.sized j i h (omega (arith, m, q.counted.node-limit, s.n)))

pub node-max : (b : List ℤ) → Laid b → (state_of b).node_limit ≤ 1024
unfolding Laid
node-max b q = omega arith

-- word i of the store stands i places behind its first
pub store-from : (b : List ℤ) (i a : ℕ) → Laid b → i < (state_of b).store_limit → Found b store_row 0 a → Found b store_row i (a + i)
unfolding Laid
store-from b i a q m f =
    let p = (store_found b q.sized 0 (omega (arith, m, q.counted.store-limit))).stands.place in
    let e : a + i ≡ 16 + 4 * v_of b + 11 * e_of b + 7 * n_of b + i = omega (arith, f.stands.place, p) in
    rw e (store_found b q.sized i (omega (arith, m, q.counted.store-limit)))
