-- The words of a node's lists replaced in the store, and the starts and lengths that go with them: what stands where.
-- In all of it the lists start at a; the old ones have x words of boundary and y in all; k of boundary and m of kept stack are in the new ones.
use Prim.Native.Nat.{ℕ, ◌+◌, ◌-◌, ◌≤◌, ◌<◌}
use native.Mathlib.Omega.{arith}
use Rattle.std.proofs.Math.Decide.{dec_lt}
use Rattle.std.specs.Prelude.{◌≡◌, ℤ, drop}
use Rattle.std.proofs.Math.Path.{sym, ap}
use Rattle.std.proofs.Common.{◌∙◌, length-drop, get_or-take}
use mathlib.Core.List.{List, ◌++◌}
use Rattle.std.proofs.Math.ListN.{length, set, get_or, take, get_or-append}
use Rattle.std.proofs.Math.Seq.{get_or-drop, get_or-append-add, length-take-le}
use Rattle.graph.specs.Word.{word_at, numbers_at}
use Rattle.graph.specs.Rows.{rows, start_row, boundary_length_row, overgrown_length_row}
use Rattle.graph.specs.Layout.{rows_of, row, state_of}
use Rattle.graph.specs.Form.{Laid}
use Rattle.graph.specs.inner.Form.{Rowed}
use Rattle.graph.specs.laws.Row.{rowed-then}
use Rattle.graph.specs.laws.Number.{numbers-entry, numbers-length}
use Rattle.graph.specs.laws.List.{store_length}
use Rattle.graph.specs.inner.Lists.{store_of}
use Rattle.store.specs.laws.Move.{wrote_at}
use Rattle.store.specs.inner.Wrote.{Shifted, Filled, Copied}
use Rattle.graph.specs.inner.Cut.{Agree}
use Rattle.store.specs.inner.Store.{SameCounts, Moved, new_lists, Stored, Resized}

-- ---- the kept stack and the rest behind the lists, moved

module _ (b₀ b₁ b : List ℤ) (a x y rest k m z : ℕ) (hx : x + m ≤ y) (hk : k + m ≤ z) where
  -- the rest first, where it goes up
  pub moved_up : y < z → Copied b₀ b₁ (a + y) (a + z) rest → Copied b₁ b (a + x) (a + k) m → Moved b₀ b a x y rest k m z
  moved_up h u v = record {
    still = rowed-then u.still v.still;
    before = λ p i. v.below p (omega arith) ∙ u.below p (omega arith);
    kept = λ i j. wrote_at (a + k) m (λ r. get_or (store_of b₁) (a + x + r) 0) v i j ∙ u.below (a + x + i) (omega arith);
    after = λ i j. v.above (a + z + i) (omega arith) ∙ wrote_at (a + z) rest (λ r. get_or (store_of b₀) (a + y + r) 0) u i j;
  }

  -- the rest last, where it stays or goes down
  pub moved_down : z ≤ y → Copied b₀ b₁ (a + x) (a + k) m → Copied b₁ b (a + y) (a + z) rest → Moved b₀ b a x y rest k m z
  moved_down h u v = record {
    still = rowed-then u.still v.still;
    before = λ p i. v.below p (omega arith) ∙ u.below p (omega arith);
    kept = λ i j. v.below (a + k + i) (omega arith) ∙ wrote_at (a + k) m (λ r. get_or (store_of b₀) (a + x + r) 0) u i j;
    after = λ i j. wrote_at (a + z) rest (λ r. get_or (store_of b₁) (a + y + r) 0) v i j ∙ u.above (a + y + i) (omega arith);
  }

-- ---- the new words put in

module _ (b₀ b₁ b₂ b t : List ℤ) (a x y rest k m q o : ℕ) (g : Laid b₀) (hx : x + m ≤ y) (room : a + y + rest ≤ (state_of b₀).store_limit)
    (h : Moved b₀ b₁ a x y rest k m (k + (m + o)))
    (u : Filled b₁ b₂ t 0 a k)
    (v : Filled b₂ b t q (a + k + m) o)
    (ht : k ≤ length t) (hq : q + o ≤ length t) where
  first : (i : ℕ) → i < k → get_or (store_of b) (a + i) 0 ≡ get_or (numbers_at t 0 k) i 0
  first i j = v.below (a + i) (omega arith) ∙ wrote_at a k (λ r. word_at t (0 + r)) u i j ∙ sym (numbers-entry t 0 k i j)

  middle : (i : ℕ) → i < m → get_or (store_of b) (a + k + i) 0 ≡ get_or (take m (drop (a + x) (store_of b₀))) i 0
  middle i j =
      v.below (a + k + i) (omega arith) ∙ u.above (a + k + i) (omega arith) ∙ h.kept i j
      ∙ sym (get_or-take m (drop (a + x) (store_of b₀)) i 0 j ∙ get_or-drop (a + x) (store_of b₀) i 0)

  last : (i : ℕ) → i < o → get_or (store_of b) (a + k + m + i) 0 ≡ get_or (numbers_at t q o) i 0
  last i j = wrote_at (a + k + m) o (λ r. word_at t (q + r)) v i j ∙ sym (numbers-entry t q o i j)

  inner : Agree (k + (m + o)) (drop a (store_of b)) (new_lists b₀ t a x k m q o)
  unfolding new_lists
  inner p j =
      let A : List ℕ = numbers_at t 0 k in
      let B : List ℕ = take m (drop (a + x) (store_of b₀)) in
      let C : List ℕ = numbers_at t q o in
      let lk : length A ≡ k = numbers-length t 0 k (omega arith) in
      let lm : length B ≡ m = length-take-le m (drop (a + x) (store_of b₀)) (rw (length-drop (a + x) (store_of b₀)) (omega (arith, store_length b₀ g))) in
      get_or-drop a (store_of b) p 0
      ∙ elim (dec_lt p k) [
        | yes d ↦ first p d ∙ sym (get_or-append A (B ++ C) 0 p (omega (arith, lk, d)))
        | no d ↦
            let e : p ≡ length A + (p - k) = omega (arith, lk, d) in
            elim (dec_lt (p - k) m) [
              | yes f ↦
                  let z : a + p ≡ a + k + (p - k) = omega arith in
                  rw z (middle (p - k) f)
                  ∙ sym
                  (ap (λ r. get_or (A ++ (B ++ C)) r 0) e ∙ get_or-append-add A (B ++ C) (p - k) 0
                  ∙ get_or-append B C 0 (p - k) (omega (arith, lm, f)))
              | no f ↦
                  let z : a + p ≡ a + k + m + (p - k - m) = omega arith in
                  let w : p - k ≡ length B + (p - k - m) = omega (arith, lm, f) in
                  rw z (last (p - k - m) (omega arith))
                  ∙ sym
                  (ap (λ r. get_or (A ++ (B ++ C)) r 0) e ∙ get_or-append-add A (B ++ C) (p - k) 0
                  ∙ ap (λ r. get_or (B ++ C) r 0) w ∙ get_or-append-add B C (p - k - m) 0)
            ]
      ]

  pub stored : Stored b₀ b t a x y rest k m q o
  stored = record {
    still = rowed-then (rowed-then h.still u.still) v.still;
    before = λ p i. v.below p (omega arith) ∙ u.below p i ∙ h.before p i;
    inner = inner;
    after = λ p i.
        get_or-drop (a + (k + (m + o))) (store_of b) p 0 ∙ v.above (a + (k + (m + o)) + p) (omega arith) ∙ u.above (a + (k + (m + o)) + p) (omega arith)
        ∙ h.after p i ∙ sym (get_or-drop (a + y) (store_of b₀) p 0);
  }

-- ---- starts and lengths

pub rowed-kept : {k : ℕ} {b₀ b : List ℤ} {w : List ℕ} → Rowed k b₀ b w → SameCounts b₀ b
rowed-kept r = record { laid = r.laid; vertices = r.vertices; edges = r.edges; sides = r.sides; nodes = r.nodes; len = r.len }

pub kept_then : {b₀ b₁ b : List ℤ} → SameCounts b₀ b₁ → SameCounts b₁ b → SameCounts b₀ b
kept_then p q =
    record {
      laid = q.laid;
      vertices = q.vertices ∙ p.vertices;
      edges = q.edges ∙ p.edges;
      sides = q.sides ∙ p.sides;
      nodes = q.nodes ∙ p.nodes;
      len = q.len ∙ p.len;
    }

module _ (b₀ b₁ b₂ b : List ℤ) (n c k o y : ℕ)
    (s : Shifted b₀ b₁ (n + 1) c (k + o) y)
    (u : Rowed boundary_length_row b₁ b₂ (set (row (rows_of b₁) boundary_length_row) n k))
    (v : Rowed overgrown_length_row b₂ b (set (row (rows_of b₂) overgrown_length_row) n o)) where
  same : row (rows_of b) start_row ≡ row (rows_of b₁) start_row
  unfolding rows_of rows
  same = ap (λ z. row z start_row) v.rows ∙ ap (λ z. row z start_row) u.rows

  rows_are : rows_of b ≡ set (set (set (rows_of b₀) start_row (row (rows_of b₁) start_row)) 16 (set (row (rows_of b₀) boundary_length_row) n k)) 17 (set (row (rows_of b₀) overgrown_length_row) n o)
  unfolding rows_of rows
  rows_are =
      v.rows
      ∙ ap (λ z. set z 17 (set (row z overgrown_length_row) n o)) u.rows
      ∙ ap (λ z. set (set z 16 (set (row z boundary_length_row) n k)) 17 (set (row z overgrown_length_row) n o)) s.still.rows

  pub resized : Resized b₀ b n c k o y
  resized = record {
    kept = kept_then (kept_then (rowed-kept s.still) (rowed-kept u)) (rowed-kept v);
    rows = rw same rows_are;
    behind = λ p h i. ap (λ z. get_or z p 0) same ∙ s.inside p (omega arith) i;
    before = λ p h. ap (λ z. get_or z p 0) same ∙ s.below p (omega arith);
    size = ap length same ∙ s.size;
  }
