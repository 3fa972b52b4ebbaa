-- The law of a read and of a write: a number that is set inside row k changes row k alone. Every reader and writer of a field rests on it.
use Prim.Native.Nat.{ℕ, zero, suc, ◌+◌, ◌*◌, ◌%◌, ◌≤◌, ◌<◌}
use native.Mathlib.Omega.{arith}
use Rattle.std.specs.Prelude.{◌≡◌, ◌≢◌, ℤ, pos, length, set, get_or, drop}
use Rattle.std.proofs.Math.Path.{refl}
use Rattle.std.proofs.Common.{sym, ap, ◌∙◌, length-set, length-drop, get_or-take, get_or-set_same, get_or-set_other, set-set}
use mathlib.Core.List.{List, [], ◌∷◌, map}
use Rattle.std.proofs.Math.ListN.{take, length-take, get_or-map}
use Rattle.std.proofs.lemmas.List.{length-map, set-get_or}
use Rattle.std.proofs.Math.Seq.{get_or-drop, take-set-lt, take-set-le, drop-set-lt, drop-set-add}
use Rattle.graph.specs.State.{State}
use Rattle.graph.specs.Word.{to_nat, word_at}
use Rattle.graph.specs.Rows.{rows, offset, header_row, flags_row, end_row, weight_row, grow_state_row, active_row}
use Rattle.graph.specs.Layout.{v_of, e_of, n_of, l_of, count_of, active_count_of, sizes_of, rows_of, row, state_from, state_of}
use Rattle.graph.specs.Form.{Sized, Counted, Laid, PackedRows, GraphRows, Listed, Wired, Formed}
use Rattle.graph.specs.inner.Form.{Rowed, Becomes}
use Rattle.graph.specs.inner.Found.{InRow, Found}

-- ---- rows

module _ {A : Type 0} where
  -- what stands in a row
  pub row_get : (ns : List ℕ) (w : List A) (k i : ℕ) (d : A) → i < get_or ns k 0 → get_or (get_or (rows ns w) k []) i d ≡ get_or w (offset ns k + i) d
  unfolding rows offset
  row_get [] w k i d h = absurd (omega arith)
  row_get (n ∷ ns) w zero i d h = let z : 0 + i ≡ i = omega arith in rw z (get_or-take n w i d h)
  row_get (n ∷ ns) w (suc k) i d h =
      let z : n + offset ns k + i ≡ n + (offset ns k + i) = omega arith in
      rw z (row_get ns (drop n w) k i d h ∙ get_or-drop n w (offset ns k + i) d)

  -- a number set in a row
  pub row-set : (ns : List ℕ) (w : List A) (k i : ℕ) (x : A) → i < get_or ns k 0
      → rows ns (set w (offset ns k + i) x) ≡ set (rows ns w) k (set (get_or (rows ns w) k []) i x)
  unfolding rows offset
  row-set [] w k i x h = absurd (omega arith)
  row-set (n ∷ ns) w zero i x h =
      let z : 0 + i ≡ i = omega arith in
      rw (z, take-set-lt n w i x h, drop-set-lt n w i x h)
  row-set (n ∷ ns) w (suc k) i x h =
      let z : n + offset ns k + i ≡ n + (offset ns k + i) = omega arith in
      rw (z, take-set-le n w (n + (offset ns k + i)) x (omega arith), drop-set-add n w (offset ns k + i) x)
      (ap (λ r. take n w ∷ r) (row-set ns (drop n w) k i x h))

  -- how long a row is
  pub row-length : (ns : List ℕ) (w : List A) (k : ℕ) → offset ns k + get_or ns k 0 ≤ length w → length (get_or (rows ns w) k []) ≡ get_or ns k 0
  unfolding rows offset
  row-length [] w k h = refl
  row-length (n ∷ ns) w zero h = length-take n w ∙ omega arith
  row-length (n ∷ ns) w (suc k) h = row-length ns (drop n w) k (rw (length-drop n w) (omega arith))

-- ---- words

pub word-other : (b : List ℤ) (i j : ℕ) (z : ℤ) → j ≢ i → word_at (set b i z) j ≡ word_at b j
unfolding word_at
word-other b i j z n = rw (get_or-set_other b i j z (pos 0) n)

pub numbers-any : (b : List ℤ) (i : ℕ) (z : ℤ) → map to_nat (set b i z) ≡ set (map to_nat b) i (to_nat z)
numbers-any [] i z = refl
numbers-any (y ∷ b) zero z = refl
numbers-any (y ∷ b) (suc i) z = ap (λ r. to_nat y ∷ r) (numbers-any b i z)

pub numbers-get : (b : List ℤ) (i : ℕ) → get_or (map to_nat b) i 0 ≡ word_at b i
unfolding word_at to_nat
numbers-get b i = get_or-map to_nat b i (pos 0)

-- ---- place i of row k is the word at p

pub rows_get : (b : List ℤ) (k i p : ℕ) → InRow b k i p → word_at b p ≡ get_or (row (rows_of b) k) i 0
unfolding rows_of
rows_get b k i p s = rw s.place (sym (row_get (sizes_of b) (map to_nat b) k i 0 s.within ∙ numbers-get b (offset (sizes_of b) k + i)))

-- the rows of b with x at place i of row k
abbrev pub rows_with : List ℤ → ℕ → ℕ → ℕ → List (List ℕ)
rows_with b k i x = set (rows_of b) k (set (row (rows_of b) k) i x)

-- any word, behind the four sizes
pub rows-any : (b : List ℤ) (k i p : ℕ) (z : ℤ) → InRow b k i p → 4 ≤ p → rows_of (set b p z) ≡ rows_with b k i (to_nat z)
unfolding rows_of
rows-any b k i p z s h =
    rw (
      word-other b p 0 z (omega arith),
      word-other b p 1 z (omega arith),
      word-other b p 2 z (omega arith),
      word-other b p 3 z (omega arith),
      numbers-any b p z,
      s.place,
    )
    (row-set (sizes_of b) (map to_nat b) k i (to_nat z) s.within)

pub rows-put : (b : List ℤ) (k i p x : ℕ) → InRow b k i p → 4 ≤ p → rows_of (set b p (pos x)) ≡ rows_with b k i x
unfolding to_nat
rows-put b k i p x = rows-any b k i p (pos x)

sized-any : (b : List ℤ) (p : ℕ) (w : ℤ) → Sized b → 4 ≤ p → Sized (set b p w)
sized-any b p w z h =
    let w₀ = word-other b p 0 w (omega arith) in
    let w₁ = word-other b p 1 w (omega arith) in
    let w₂ = word-other b p 2 w (omega arith) in
    let w₃ = word-other b p 3 w (omega arith) in
    let w₄ = length-set b p w in
    record {
      v-min = omega arith;
      v-max = omega arith;
      e-min = omega arith;
      e-max = omega arith;
      n-min = omega arith;
      n-max = omega arith;
      l-max = omega arith;
      len = omega arith;
    }

pub sized-put : (b : List ℤ) (p x : ℕ) → Sized b → 4 ≤ p → Sized (set b p (pos x))
sized-put b p x = sized-any b p (pos x)

-- ---- the counts

-- a word of the header
pub header-get : (b : List ℤ) (i : ℕ) → i < 16 → get_or (row (rows_of b) header_row) i 0 ≡ word_at b i
unfolding offset
header-get b i h = sym (rows_get b 0 i i (record { place = omega arith; within = h }))

pub rows-length : (b : List ℤ) (k : ℕ) → offset (sizes_of b) k + get_or (sizes_of b) k 0 ≤ length b → length (row (rows_of b) k) ≡ get_or (sizes_of b) k 0
unfolding rows_of
rows-length b k h = row-length (sizes_of b) (map to_nat b) k (rw (length-map b to_nat) h)

pub rows-count : (b : List ℤ) → length (rows_of b) ≡ 21
unfolding rows_of rows
rows-count b = refl

pub counted_of : (b : List ℤ) → Sized b → count_of b ≤ n_of b → active_count_of b ≤ n_of b → Counted b
unfolding state_of state_from offset
counted_of b z h a =
    let c : get_or (row (rows_of b) header_row) 4 0 ≡ count_of b = header-get b 4 (omega arith) in
    let l₁₂ : length (row (rows_of b) grow_state_row) ≡ n_of b = rows-length b grow_state_row (omega arith) in
    let m : get_or (row (rows_of b) header_row) 5 0 ≡ active_count_of b = header-get b 5 (omega arith) in
    let l₁₉ : length (row (rows_of b) active_row) ≡ n_of b = rows-length b active_row (omega arith) in
    record {
      vertices = length-map (row (rows_of b) flags_row) (λ x. x % 2) ∙ rows-length b flags_row (omega arith);
      edges = rows-length b weight_row (omega arith);
      sides = rows-length b end_row (omega arith);
      nodes = length-take (get_or (row (rows_of b) header_row) 4 0) (row (rows_of b) grow_state_row) ∙ omega arith;
      node-limit = header-get b 2 (omega arith);
      store-limit = header-get b 3 (omega arith);
      count-max = h;
      actives = length-take (get_or (row (rows_of b) header_row) 5 0) (row (rows_of b) active_row) ∙ omega arith;
      active-max = a;
    }

pub laid_of : (b : List ℤ) → Sized b → count_of b ≤ n_of b → active_count_of b ≤ n_of b → Laid b
unfolding Laid
laid_of b z h a = record { sized = z; counted = counted_of b z h a }

-- the limits of the sizes, without the length of the block
pub laid-sizes : (b : List ℤ) → Laid b → (v_of b ≤ 1024) × (e_of b ≤ 4096) × (n_of b ≤ 1024) × (l_of b ≤ 65536) × ((state_of b).node_limit ≡ n_of b)
unfolding Laid
laid-sizes b q = (q.sized.v-max, q.sized.e-max, q.sized.n-max, q.sized.l-max, q.counted.node-limit)

pub formed-of : (b : List ℤ) → Laid b → PackedRows (rows_of b) → GraphRows (rows_of b) → Formed b
unfolding Laid Listed Wired
formed-of b q p g =
    record {
      vertices-max = omega arith;
      sides-max = omega arith;
      pairs = omega arith;
      nodes-max = omega arith;
      laid = q;
      listed = p;
      wired = g;
    }

-- ---- where the rows of each section begin

-- a product with a row's number in its section is no more than with the greatest
pub times_below : (k x : ℕ) → k < 7 → k * x ≤ 6 * x
times_below zero x h = omega arith
times_below (suc zero) x h = omega arith
times_below (suc (suc zero)) x h = omega arith
times_below (suc (suc (suc zero))) x h = omega arith
times_below (suc (suc (suc (suc zero)))) x h = omega arith
times_below (suc (suc (suc (suc (suc zero))))) x h = omega arith
times_below (suc (suc (suc (suc (suc (suc zero)))))) x h = omega arith
times_below (suc (suc (suc (suc (suc (suc (suc k))))))) x h = absurd (omega arith)

module _ (b : List ℤ) (z : Sized b) where
  found : {k i p : ℕ} → InRow b k i p → (16 ≤ p) × (p < length b) → Found b k i p
  found s h = record { stands = s; within = h.1; behind = h.0 }

  pub vertex-found : (k v : ℕ) → k < 4 → v < v_of b → Found b (1 + k) v (16 + k * v_of b + v)
  unfolding offset
  vertex-found zero v h i = found (record { place = omega arith; within = i }) (omega arith)
  vertex-found (suc zero) v h i = found (record { place = omega arith; within = i }) (omega arith)
  vertex-found (suc (suc zero)) v h i = found (record { place = omega arith; within = i }) (omega arith)
  vertex-found (suc (suc (suc zero))) v h i = found (record { place = omega arith; within = i }) (omega arith)
  vertex-found (suc (suc (suc (suc k)))) v h i = absurd (omega arith)

  pub side-found : (k s : ℕ) → k < 5 → s < 2 * e_of b → Found b (5 + k) s (16 + 4 * v_of b + k * (2 * e_of b) + s)
  unfolding offset
  side-found zero s h i = found (record { place = omega arith; within = i }) (omega arith)
  side-found (suc zero) s h i = found (record { place = omega arith; within = i }) (omega arith)
  side-found (suc (suc zero)) s h i = found (record { place = omega arith; within = i }) (omega arith)
  side-found (suc (suc (suc zero))) s h i = found (record { place = omega arith; within = i }) (omega arith)
  side-found (suc (suc (suc (suc zero)))) s h i = found (record { place = omega arith; within = i }) (omega arith)
  side-found (suc (suc (suc (suc (suc k))))) s h i = absurd (omega arith)

  pub edge-found : (e : ℕ) → e < e_of b → Found b 10 e (16 + 4 * v_of b + 10 * e_of b + e)
  unfolding offset
  edge-found e i = found (record { place = omega arith; within = i }) (omega arith)

  pub node-found : (k n : ℕ) → k < 7 → n < n_of b → Found b (11 + k) n (16 + 4 * v_of b + 11 * e_of b + k * n_of b + n)
  unfolding offset
  node-found zero n h i = found (record { place = omega arith; within = i }) (omega arith)
  node-found (suc zero) n h i = found (record { place = omega arith; within = i }) (omega arith)
  node-found (suc (suc zero)) n h i = found (record { place = omega arith; within = i }) (omega arith)
  node-found (suc (suc (suc zero))) n h i = found (record { place = omega arith; within = i }) (omega arith)
  node-found (suc (suc (suc (suc zero)))) n h i = found (record { place = omega arith; within = i }) (omega arith)
  node-found (suc (suc (suc (suc (suc zero))))) n h i = found (record { place = omega arith; within = i }) (omega arith)
  node-found (suc (suc (suc (suc (suc (suc zero)))))) n h i = found (record { place = omega arith; within = i }) (omega arith)
  node-found (suc (suc (suc (suc (suc (suc (suc k))))))) n h i = absurd (omega arith)

  pub store_found : (j : ℕ) → j < l_of b → Found b 18 j (16 + 4 * v_of b + 11 * e_of b + 7 * n_of b + j)
  unfolding offset
  store_found j i = found (record { place = omega arith; within = i }) (omega arith)

  pub active-found : (j : ℕ) → j < n_of b → Found b 19 j (16 + 4 * v_of b + 11 * e_of b + 7 * n_of b + l_of b + j)
  unfolding offset
  active-found j i = found (record { place = omega arith; within = i }) (omega arith)

  pub original-found : (e : ℕ) → e < e_of b → Found b 20 e (16 + 4 * v_of b + 11 * e_of b + 8 * n_of b + l_of b + e)
  unfolding offset
  original-found e i = found (record { place = omega arith; within = i }) (omega arith)

-- ---- a write

-- any word at place i of row k, behind the header's sizes and counts
rowed-at : (b : List ℤ) (k i p : ℕ) (w : ℤ) → Laid b → InRow b k i p → 6 ≤ p → Rowed k b (set b p w) (set (row (rows_of b) k) i (to_nat w))
unfolding Laid
rowed-at b k i p w q s h =
    let w₀ = word-other b p 0 w (omega arith) in
    let w₁ = word-other b p 1 w (omega arith) in
    let w₂ = word-other b p 2 w (omega arith) in
    let w₃ = word-other b p 3 w (omega arith) in
    let w₄ = word-other b p 4 w (omega arith) in
    let w₅ = word-other b p 5 w (omega arith) in
    let z : Sized (set b p w) = sized-any b p w q.sized (omega arith) in
    let t : Counted (set b p w) = counted_of (set b p w) z (omega arith) (omega arith) in
    record {
      laid = record { sized = z; counted = t };
      rows = rows-any b k i p w s (omega arith);
      vertices = omega arith;
      edges = omega arith;
      sides = omega arith;
      nodes = omega arith;
      node-limit = omega arith;
      store-limit = omega arith;
      len = length-set b p w;
    }

-- the word at place j of t, as it stands
pub rowed-copy : (b : List ℤ) (k i p : ℕ) (t : List ℤ) (j : ℕ) → Laid b → Found b k i p
    → Rowed k b (set b p (get_or t j (pos 0))) (set (row (rows_of b) k) i (word_at t j))
unfolding word_at
rowed-copy b k i p t j q s = rowed-at b k i p (get_or t j (pos 0)) q s.stands (omega (arith, s.behind))

-- a number
pub rowed-put : (b : List ℤ) (k i p x : ℕ) → Laid b → Found b k i p → Rowed k b (set b p (pos x)) (set (row (rows_of b) k) i x)
unfolding to_nat
rowed-put b k i p x q s = rowed-at b k i p (pos x) q s.stands (omega (arith, s.behind))

-- the mark of changed weights, word 6 of the header
pub rowed-mark : (b : List ℤ) (x : ℕ) → Laid b → Rowed header_row b (set b 6 (pos x)) (set (row (rows_of b) header_row) 6 x)
unfolding offset to_nat
rowed-mark b x q = rowed-at b 0 6 6 (pos x) q (record { place = omega arith; within = omega arith }) (omega arith)

pub state-of-rows : (b : List ℤ) (r : List (List ℕ)) → rows_of b ≡ r → state_of b ≡ state_from r
unfolding state_of
state-of-rows b r e = rw e

-- a row written: the block stays in form and holds the state of the rows with that row changed
pub becomes-row : {k : ℕ} {b₀ b : List ℤ} {w : List ℕ} {c : State} → Rowed k b₀ b w → PackedRows (set (rows_of b₀) k w)
    → GraphRows (set (rows_of b₀) k w) → state_from (set (rows_of b₀) k w) ≡ c → Becomes b₀ b c
becomes-row {k} {b₀} {b} {w} {c} q p g e = record {
  formed = formed-of b q.laid (rw q.rows p) (rw q.rows g);
  state = state-of-rows b (set (rows_of b₀) k w) q.rows ∙ e;
  vertices = q.vertices;
  edges = q.edges;
  sides = q.sides;
  nodes = q.nodes;
  len = q.len;
}

-- ---- one change after another

pub becomes-then : {b₀ b₁ b₂ : List ℤ} {c d : State} → Becomes b₀ b₁ c → Becomes b₁ b₂ d → Becomes b₀ b₂ d
becomes-then p q =
    record {
      formed = q.formed;
      state = q.state;
      vertices = q.vertices ∙ p.vertices;
      edges = q.edges ∙ p.edges;
      sides = q.sides ∙ p.sides;
      nodes = q.nodes ∙ p.nodes;
      len = q.len ∙ p.len;
    }

pub becomes-none : (b : List ℤ) (c : State) → Formed b → state_of b ≡ c → Becomes b b c
becomes-none b c f e = record { formed = f; state = e; vertices = refl; edges = refl; sides = refl; nodes = refl; len = refl }

pub rowed-row : {k : ℕ} {b₀ b : List ℤ} {l : List ℕ} → k < 21 → Rowed k b₀ b l → row (rows_of b) k ≡ l
rowed-row {k} {b₀} {b} {l} h r = ap (λ z. row z k) r.rows ∙ get_or-set_same (rows_of b₀) k l [] (omega (arith, rows-count b₀))

pub rowed-then : {k : ℕ} {b₀ b₁ b₂ : List ℤ} {l₁ l₂ : List ℕ} → Rowed k b₀ b₁ l₁ → Rowed k b₁ b₂ l₂ → Rowed k b₀ b₂ l₂
rowed-then {k} {b₀} {b₁} {b₂} {l₁} {l₂} p q = record {
  laid = q.laid;
  rows = q.rows ∙ ap (λ z. set z k l₂) p.rows ∙ set-set (rows_of b₀) k l₁ l₂;
  vertices = q.vertices ∙ p.vertices;
  edges = q.edges ∙ p.edges;
  sides = q.sides ∙ p.sides;
  nodes = q.nodes ∙ p.nodes;
  node-limit = q.node-limit ∙ p.node-limit;
  store-limit = q.store-limit ∙ p.store-limit;
  len = q.len ∙ p.len;
}

pub rowed-none : (k : ℕ) (b : List ℤ) → Laid b → Rowed k b b (row (rows_of b) k)
rowed-none k b q =
    record {
      laid = q;
      rows = sym (set-get_or (rows_of b) k []);
      vertices = refl;
      edges = refl;
      sides = refl;
      nodes = refl;
      node-limit = refl;
      store-limit = refl;
      len = refl;
    }
