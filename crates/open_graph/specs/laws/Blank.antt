-- A block of given sizes with all else zero, and the rows that it holds while the graph is written.
use Rattle.std.specs.Prelude.{ℕ, zero, suc, ◌+◌, ◌-◌, ◌≤◌, ◌≡◌, refl, true, List, [], ◌∷◌, ◌++◌, map, ℤ, pos, length, set, take, drop, replicate}
use Rattle.std.proofs.Common.{arith, sym, ap, ◌∙◌}
use Rattle.std.proofs.lemmas.List.{length-replicate, replicate-append-replicate}
use Rattle.graph.specs.Open.{sizes_ok}
use Rattle.graph.specs.Word.{to_nat, word_at}
use Rattle.graph.specs.Rows.{rows}
use Rattle.graph.specs.Layout.{block_length, rows_of}
use Rattle.graph.specs.Form.{Sized, Laid}
use Rattle.graph.specs.inner.Form.{Rowed}
use Rattle.graph.specs.laws.Row.{laid_of}
use Rattle.graph.specs.laws.Size.{SizesIn, sizes-in}
use Rattle.graph.specs.Opening.{zeros}
use Rattle.open_graph.specs.inner.Blank.{HasRows, rest_sizes, blank_rows}

-- ---- what a block holds in between

pub holds_then : {v e n l k : ℕ} {b b' : List ℤ} {r : List (List ℕ)} {w : List ℕ} → HasRows v e n l b r → Rowed k b b' w → HasRows v e n l b' (set r k w)
holds_then {v} {e} {n} {l} {k} {b} {b'} {r} {w} h q = record {
  laid = q.laid;
  rows = q.rows ∙ ap (λ z. set z k w) h.rows;
  vertices = q.vertices ∙ h.vertices;
  edges = q.edges ∙ h.edges;
  sides = q.sides ∙ h.sides;
  len = q.len ∙ h.len;
}

-- ---- the blank block

take-zeros : (n k : ℕ) → n ≤ k → take n (zeros k) ≡ zeros n
take-zeros zero k h = refl
take-zeros (suc n) zero h = absurd (omega arith)
take-zeros (suc n) (suc k) h = ap (λ r. 0 ∷ r) (take-zeros n k (omega arith))

drop-zeros : (n k : ℕ) → n ≤ k → drop n (zeros k) ≡ zeros (k - n)
drop-zeros zero k h = let z : k ≡ k - 0 = omega arith in ap (λ i. zeros i) z
drop-zeros (suc n) zero h = absurd (omega arith)
drop-zeros (suc n) (suc k) h = let z : k - n ≡ suc k - suc n = omega arith in drop-zeros n k (omega arith) ∙ ap (λ i. zeros i) z

-- the sum of the lengths
unfoldable pub total_of : List ℕ → ℕ
total_of [] = 0
total_of (n ∷ ns) = n + total_of ns

rows-zeros : (ns : List ℕ) (k : ℕ) → total_of ns ≤ k → rows ns (zeros k) ≡ map zeros ns
unfolding rows total_of
rows-zeros [] k h = refl
rows-zeros (n ∷ ns) k h = rw (take-zeros n k (omega arith), drop-zeros n k (omega arith), rows-zeros ns (k - n) (omega arith))

numbers-zeros : (k : ℕ) → map to_nat (replicate k (pos 0)) ≡ zeros k
unfolding to_nat
numbers-zeros zero = refl
numbers-zeros (suc k) = ap (λ r. 0 ∷ r) (numbers-zeros k)

-- the sizes put into a block of m zeros
unfoldable pub blank_block : ℕ → ℕ → ℕ → ℕ → ℕ → List ℤ
blank_block m v e n l = set (set (set (set (replicate m (pos 0)) 0 (pos v)) 1 (pos e)) 2 (pos n)) 3 (pos l)

-- the same, its header written out
abbrev headed : ℕ → ℕ → ℕ → ℕ → ℕ → List ℤ
headed k v e n l = pos v ∷ pos e ∷ pos n ∷ pos l ∷ (replicate 12 (pos 0) ++ replicate k (pos 0))

blank-headed : (m v e n l : ℕ) → 16 ≤ m → blank_block m v e n l ≡ headed (m - 16) v e n l
unfolding blank_block
blank-headed m v e n l h =
    let y : m ≡ 16 + (m - 16) = omega arith in
    let z : replicate m (pos 0) ≡ replicate 16 (pos 0) ++ replicate (m - 16) (pos 0) =
    ap (λ k. replicate k (pos 0)) y ∙ sym (replicate-append-replicate 16 (m - 16) (pos 0)) in
    rw z

module _ (k v e n l : ℕ) (h : SizesIn v e n l) (z : 16 + k ≡ block_length v e n l) where
  headed-rows : rows_of (headed k v e n l) ≡ blank_rows v e n l
  unfolding rows_of rows word_at to_nat blank_rows total_of
  headed-rows = rw (numbers-zeros k) (ap (λ r. (v ∷ e ∷ n ∷ l ∷ zeros 12) ∷ r) (rows-zeros (rest_sizes v e n l) k (omega arith)))

  headed-length : length (headed k v e n l) ≡ block_length v e n l
  headed-length =
      ap (λ i. suc (suc (suc (suc (suc (suc (suc (suc (suc (suc (suc (suc (suc (suc (suc (suc i))))))))))))))))
      (length-replicate k (pos 0))
      ∙ omega arith

  headed-sized : Sized (headed k v e n l)
  unfolding word_at to_nat
  headed-sized =
      record {
        v-min = h.v-min;
        v-max = h.v-max;
        e-min = h.e-min;
        e-max = h.e-max;
        n-min = h.n-min;
        n-max = h.n-max;
        l-max = h.l-max;
        len = headed-length;
      }

  headed-laid : Laid (headed k v e n l)
  unfolding word_at to_nat
  headed-laid = laid_of (headed k v e n l) headed-sized (omega arith) (omega arith)

  headed-holds : HasRows v e n l (headed k v e n l) (blank_rows v e n l)
  unfolding Laid word_at to_nat
  headed-holds =
      record {
        laid = headed-laid;
        rows = headed-rows;
        vertices = headed-laid.counted.vertices;
        edges = headed-laid.counted.edges;
        sides = headed-laid.counted.sides;
        len = headed-length;
      }

pub blank-holds : (m v e n l : ℕ) → sizes_ok v e n l ≡ true → m ≡ block_length v e n l → HasRows v e n l (blank_block m v e n l) (blank_rows v e n l)
blank-holds m v e n l h z = rw (blank-headed m v e n l (omega arith)) (headed-holds (m - 16) v e n l (sizes-in v e n l h) (omega arith))
