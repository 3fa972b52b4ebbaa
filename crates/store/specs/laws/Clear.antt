-- A block cleared: its rows, the state that it then holds, and its form.
use Rattle.std.specs.Prelude.{ℕ, ◌/◌, ◌%◌, ◌≤◌, ◌<◌, ◌≡◌, refl, List, [], ◌∷◌, map, ℤ, pos, get_or}
use Rattle.std.proofs.Common.{arith, ◌∙◌}
use Rattle.std.proofs.Math.Path.{sym, ap}
use Rattle.std.proofs.Math.ListN.{length, set, length-set, length-map}
use Rattle.std.proofs.Math.Seq.{get_or-set_same, get_or-set_other}
use Rattle.graph.specs.Open.{blank_state, with_originals, cleared}
use Rattle.graph.specs.Rows.{rows, offset, header_row, flags_row, vertex_holder_row, vertex_grandson_row, end_row, growth_row, holder_row, grandson_row, weight_row, original_row}
use Rattle.graph.specs.Word.{word_at, to_nat}
use Rattle.graph.specs.Layout.{count_of, active_count_of, rows_of, row, boundaries, stacks, state_from, state_of}
use Rattle.graph.specs.Form.{Sized, Counted, LaidOut, Laid, Wired, PackedRows, GraphRows, Formed, starts_from, total_from}
use Rattle.graph.specs.inner.Form.{Rowed}
use Rattle.graph.specs.laws.Row.{word-other, rows-put, sized-put, counted_of, rows-length, formed-of}
use Rattle.store.specs.laws.Store.{rowed-kept, kept_then}
use Rattle.store.specs.inner.Store.{Rewritten, cleared_vertices, cleared_sides}
use Rattle.graph.specs.Opening.{zeros, cleared_rows, Cleared}
use Rattle.graph.specs.inner.Recounted.{ActiveRecounted, Recounted}
use Rattle.graph.specs.laws.Table.{vertex-row, side-row}

-- ---- the number of nodes, and of active nodes

put-here : (b : List ℤ) (i x : ℕ) → i < length b → word_at (set b i (pos x)) i ≡ x
unfolding word_at to_nat
put-here b i x h = rw (get_or-set_same b i (pos x) (pos 0) h)

pub recounted : (b : List ℤ) (x : ℕ) → Laid b → x ≤ (state_of b).node_limit → Recounted b (set b 4 (pos x)) x
unfolding Laid offset
recounted b x q h =
    let w₀ = word-other b 4 0 (pos x) (omega arith) in
    let w₁ = word-other b 4 1 (pos x) (omega arith) in
    let w₂ = word-other b 4 2 (pos x) (omega arith) in
    let w₃ = word-other b 4 3 (pos x) (omega arith) in
    let w₅ = word-other b 4 5 (pos x) (omega arith) in
    let w₄ : count_of (set b 4 (pos x)) ≡ x = put-here b 4 x (omega arith) in
    let z : Sized (set b 4 (pos x)) = sized-put b 4 x q.sized (omega arith) in
    let t : Counted (set b 4 (pos x)) = counted_of (set b 4 (pos x)) z (omega arith) (omega arith) in
    record {
      laid = record { sized = z; counted = t };
      rows = rows-put b 0 4 4 x (record { place = omega arith; within = omega arith }) (omega arith);
      vertices = omega arith;
      edges = omega arith;
      sides = omega arith;
      nodes = omega arith;
      node-limit = omega arith;
      store-limit = omega arith;
      len = length-set b 4 (pos x);
    }

pub active-recounted : (b : List ℤ) (x : ℕ) → Laid b → x ≤ (state_of b).node_limit → ActiveRecounted b (set b 5 (pos x)) x
unfolding Laid offset
active-recounted b x q h =
    let w₀ = word-other b 5 0 (pos x) (omega arith) in
    let w₁ = word-other b 5 1 (pos x) (omega arith) in
    let w₂ = word-other b 5 2 (pos x) (omega arith) in
    let w₃ = word-other b 5 3 (pos x) (omega arith) in
    let w₄ = word-other b 5 4 (pos x) (omega arith) in
    let w₅ : active_count_of (set b 5 (pos x)) ≡ x = put-here b 5 x (omega arith) in
    let z : Sized (set b 5 (pos x)) = sized-put b 5 x q.sized (omega arith) in
    let t : Counted (set b 5 (pos x)) = counted_of (set b 5 (pos x)) z (omega arith) (omega arith) in
    record {
      laid = record { sized = z; counted = t };
      rows = rows-put b 0 5 5 x (record { place = omega arith; within = omega arith }) (omega arith);
      vertices = omega arith;
      edges = omega arith;
      sides = omega arith;
      nodes = omega arith;
      node-limit = omega arith;
      store-limit = omega arith;
      len = length-set b 5 (pos x);
    }

-- ---- rows of zeros

pub rewritten-first : {k : ℕ} {b₀ b : List ℤ} {w : List ℕ} → Rowed k b₀ b w → Rewritten b₀ b (set (rows_of b₀) k w)
rewritten-first q = record { kept = rowed-kept q; rows = q.rows }

-- one more row becomes zero
pub rewritten-zeros : {k : ℕ} {b₀ b b' : List ℤ} {r : List (List ℕ)} → Rewritten b₀ b r
    → Rowed k b b' (zeros (length (row (rows_of b) k))) → Rewritten b₀ b' (set r k (zeros (length (row r k))))
rewritten-zeros {k} {b₀} {b} {b'} {r} h q =
    record {
      kept = kept_then h.kept (rowed-kept q);
      rows = q.rows ∙ ap (λ z. set z k (zeros (length (row z k)))) h.rows;
    }

module _ (b₀ b₁ b₂ b : List ℤ) where
  pub vertices-rewritten : Rowed flags_row b₀ b₁ (map (λ x. x % 2) (row (rows_of b₀) flags_row))
      → Rowed vertex_holder_row b₁ b₂ (zeros (length (row (rows_of b₁) vertex_holder_row))) → Rowed vertex_grandson_row b₂ b (zeros (length (row (rows_of b₂) vertex_grandson_row)))
      → Rewritten b₀ b (cleared_vertices (rows_of b₀))
  unfolding cleared_vertices rows_of rows
  vertices-rewritten p q r = rewritten-zeros (rewritten-zeros (rewritten-first p) q) r

  pub sides-rewritten : Rowed growth_row b₀ b₁ (zeros (length (row (rows_of b₀) growth_row)))
      → Rowed holder_row b₁ b₂ (zeros (length (row (rows_of b₁) holder_row))) → Rowed grandson_row b₂ b (zeros (length (row (rows_of b₂) grandson_row)))
      → Rewritten b₀ b (cleared_sides (rows_of b₀))
  unfolding cleared_sides rows_of rows
  sides-rewritten p q r = rewritten-zeros (rewritten-zeros (rewritten-first p) q) r

-- ---- the flags

-- of the flags, the virtual ones alone
flags-twice : (l : List ℕ) → map (λ x. x % 2) (map (λ x. x % 2) l) ≡ map (λ x. x % 2) l
flags-twice [] = refl
flags-twice (x ∷ l) = let z : x % 2 % 2 ≡ x % 2 = omega arith in rw (z, flags-twice l)

flags-none : (l : List ℕ) → map (λ x. x / 2) (map (λ x. x % 2) l) ≡ zeros (length l)
flags-none [] = refl
flags-none (x ∷ l) = let z : x % 2 / 2 ≡ 0 = omega arith in rw (z, flags-none l)

-- ---- the state, and the form

module _ (r : List (List ℕ)) (h : 6 < length (row r header_row)) where
  header : List ℕ
  header = set (set (set (row r header_row) 4 0) 5 0) 6 0

  counts : List ℕ
  counts = set (set (row r header_row) 4 0) 5 0

  before-mark : (i : ℕ) → i < 6 → get_or header i 0 ≡ get_or counts i 0
  unfolding header counts
  before-mark i k = get_or-set_other (set (set (row r header_row) 4 0) 5 0) 6 i 0 0 (λ q. omega arith)

  mark-none : ◌≡◌ {A = ℕ} (get_or header 6 0) 0
  unfolding header
  mark-none =
      get_or-set_same (set (set (row r header_row) 4 0) 5 0) 6 0 0
      (omega (arith, length-set (set (row r header_row) 4 0) 5 0, length-set (row r header_row) 4 0))

  count_none : ◌≡◌ {A = ℕ} (get_or header 4 0) 0
  unfolding counts
  count_none = before-mark 4 (omega arith) ∙ get_or-set_other (set (row r header_row) 4 0) 5 4 0 0 (λ q. omega arith) ∙ get_or-set_same (row r header_row) 4 0 0 (omega arith)

  active-none : ◌≡◌ {A = ℕ} (get_or header 5 0) 0
  unfolding counts
  active-none = before-mark 5 (omega arith) ∙ get_or-set_same (set (row r header_row) 4 0) 5 0 0 (omega (arith, length-set (row r header_row) 4 0))

  size-still : (i : ℕ) → i < 4 → get_or header i 0 ≡ get_or (row r header_row) i 0
  unfolding counts
  size-still i k = before-mark i (omega arith) ∙ get_or-set_other (set (row r header_row) 4 0) 5 i 0 0 (λ q. omega arith) ∙ get_or-set_other (row r header_row) 4 i 0 0 (λ q. omega arith)

  cleared-packed : PackedRows (cleared_rows r)
  unfolding header cleared_rows starts_from total_from
  cleared-packed = record { count-max = rw count_none (omega arith); starts = rw count_none; total = rw count_none (omega arith) }

  cleared-wired : GraphRows r → GraphRows (cleared_rows r)
  unfolding header cleared_rows
  cleared-wired g =
      record {
        ends = rw (size-still 0 (omega arith)) g.ends;
        sides = rw (size-still 0 (omega arith)) g.sides;
        firsts = rw (size-still 1 (omega arith)) g.firsts;
        weights = g.originals;
        originals = g.originals;
      }

  cleared-state : length (row r vertex_holder_row) ≡ length (row r flags_row) → length (row r vertex_grandson_row) ≡ length (row r flags_row)
      → length (row r growth_row) ≡ length (row r end_row) → length (row r holder_row) ≡ length (row r end_row) → length (row r grandson_row) ≡ length (row r end_row)
      → state_from (cleared_rows r) ≡ cleared (state_from r)
  unfolding header cleared_rows state_from cleared with_originals blank_state boundaries stacks
  cleared-state l₂ l₃ l₆ l₇ l₈ =
      rw (
        count_none,
        active-none,
        mark-none,
        size-still 2 (omega arith),
        size-still 3 (omega arith),
        flags-twice (row r flags_row),
        flags-none (row r flags_row),
        l₂,
        l₃,
        l₆,
        l₇,
        l₈,
        length-map (row r flags_row) (λ x. x % 2),
      )

module _
    (b₀ b₁ b₂ b₃ b₄ b₅ b : List ℤ)
    (f : Formed b₀)
    (p : Recounted b₀ b₁ 0)
    (a : ActiveRecounted b₁ b₂ 0)
    (m : Rowed header_row b₂ b₃ (set (row (rows_of b₂) header_row) 6 0))
    (w : Rowed weight_row b₃ b₄ (row (rows_of b₃) original_row))
    (q : Rewritten b₄ b₅ (cleared_vertices (rows_of b₄)))
    (r : Rewritten b₅ b (cleared_sides (rows_of b₅)))
  where
    rows-cleared : rows_of b ≡ cleared_rows (rows_of b₀)
    unfolding cleared_rows cleared_vertices cleared_sides rows_of rows
    rows-cleared =
        r.rows
        ∙ ap cleared_sides
        (q.rows
        ∙ ap cleared_vertices
        (w.rows
        ∙ ap (λ z. set z 10 (row z original_row))
        (m.rows ∙ ap (λ z. set z 0 (set (row z header_row) 6 0)) (a.rows ∙ ap (λ z. set z 0 (set (row z header_row) 5 0)) p.rows))))

    header-length : 6 < length (row (rows_of b₀) header_row)
    unfolding Laid offset
    header-length =
        let z : LaidOut b₀ = f.laid in
        let x : length (row (rows_of b₀) header_row) ≡ 16 = rows-length b₀ header_row (omega (arith, z.sized.len)) in
        omega (arith, x)

    state-cleared : state_of b ≡ cleared (state_of b₀)
    unfolding state_of
    state-cleared =
        let v = vertex-row b₀ 0 f.laid (omega arith) in
        let s = side-row b₀ 0 f.laid (omega arith) in
        rw rows-cleared
        (cleared-state (rows_of b₀) header-length (vertex-row b₀ 1 f.laid (omega arith) ∙ sym v)
        (vertex-row b₀ 2 f.laid (omega arith) ∙ sym v) (side-row b₀ 1 f.laid (omega arith) ∙ sym s)
        (side-row b₀ 2 f.laid (omega arith) ∙ sym s) (side-row b₀ 3 f.laid (omega arith) ∙ sym s))

    formed-cleared : Formed b
    unfolding Wired
    formed-cleared =
        formed-of b r.kept.laid (rw rows-cleared (cleared-packed (rows_of b₀) header-length))
        (rw rows-cleared (cleared-wired (rows_of b₀) header-length f.wired))

    pub cleared-of : Cleared b₀ b
    cleared-of = record {
      formed = formed-cleared;
      state = state-cleared;
      rows = rows-cleared;
      vertices = r.kept.vertices ∙ q.kept.vertices ∙ w.vertices ∙ m.vertices ∙ a.vertices ∙ p.vertices;
      edges = r.kept.edges ∙ q.kept.edges ∙ w.edges ∙ m.edges ∙ a.edges ∙ p.edges;
      sides = r.kept.sides ∙ q.kept.sides ∙ w.sides ∙ m.sides ∙ a.sides ∙ p.sides;
      nodes = r.kept.nodes ∙ q.kept.nodes ∙ w.nodes ∙ m.nodes ∙ a.nodes ∙ p.nodes;
      len = r.kept.len ∙ q.kept.len ∙ w.len ∙ m.len ∙ a.len ∙ p.len;
    }
