-- A stretch of a row of a block written, word by word.
use Rattle.std.specs.Prelude.{ℕ, ◌+◌, ◌-◌, ◌≤◌, ◌<◌, min, max, ◌≡◌, refl, List, ℤ, length, set, get_or}
use Rattle.std.proofs.Common.{arith, sym, ap, ◌∙◌, length-set, get_or-set_same, get_or-set_other}
use Rattle.std.proofs.Math.Decide.{ℕ_discrete as dec_eq}
use Rattle.graph.specs.Rows.{offset, start_row}
use Rattle.graph.specs.Layout.{rows_of, row, state_of}
use Rattle.graph.specs.Form.{Laid}
use Rattle.graph.specs.inner.Form.{Rowed}
use Rattle.graph.specs.laws.Row.{rows-length, rowed-row, rowed-then, rowed-none}
use Rattle.graph.specs.inner.Lists.{store_of, start_word}
use Rattle.store.specs.inner.Wrote.{Wrote, Copied, Shifted}

-- nothing to write
pub wrote_none : (k : ℕ) (b : List ℤ) (lo hi : ℕ) (f : ℕ → ℕ) → Laid b → ((p : ℕ) → lo ≤ p → p < hi → get_or (row (rows_of b) k) p 0 ≡ f p) → Wrote k b b lo hi f
wrote_none k b lo hi f q h = record { still = rowed-none k b q; inside = h; below = λ p x. refl; above = λ p x. refl; size = refl }

-- a word next to the stretch
pub wrote-more : {k lo hi : ℕ} {b₀ b b' : List ℤ} {f : ℕ → ℕ} (lo' hi' q x : ℕ) → k < 21 → Wrote k b₀ b lo hi f
    → Rowed k b b' (set (row (rows_of b) k) q x) → q < length (row (rows_of b₀) k) → x ≡ f q → lo ≤ q + 1 → q ≤ hi
    → lo' ≡ min lo q → hi' ≡ max hi (q + 1) → Wrote k b₀ b' lo' hi' f
wrote-more {k} {lo} {hi} {b₀} {b} {b'} {f} lo' hi' q x h a r j e u v y z =
    let w : row (rows_of b') k ≡ set (row (rows_of b) k) q x = rowed-row h r in
    record {
      still = rw w (rowed-then a.still r);
      inside = λ p c d. elim (dec_eq p q) [
        | yes i ↦ rw (w, i) (get_or-set_same (row (rows_of b) k) q x 0 (omega (arith, a.size)) ∙ e)
        | no i ↦ rw w (get_or-set_other (row (rows_of b) k) q p x 0 i ∙ a.inside p (omega arith) (omega arith))
      ];
      below = λ p c. rw w (get_or-set_other (row (rows_of b) k) q p x 0 (λ i. omega arith) ∙ a.below p (omega arith));
      above = λ p c. rw w (get_or-set_other (row (rows_of b) k) q p x 0 (λ i. omega arith) ∙ a.above p (omega arith));
      size = rw w (length-set (row (rows_of b) k) q x ∙ a.size);
    }

-- a stretch given by the distance from its beginning
pub wrote_at : {k : ℕ} {b₀ b : List ℤ} (a n : ℕ) (g : ℕ → ℕ) → Wrote k b₀ b a (a + n) (λ p. g (p - a)) → (i : ℕ) → i < n
    → get_or (row (rows_of b) k) (a + i) 0 ≡ g i
wrote_at a n g w i h = w.inside (a + i) (omega arith) (omega arith) ∙ ap g (let z : a + i - a ≡ i = omega arith in z)

-- ---- the loop

starts-length : (b : List ℤ) → Laid b → length (row (rows_of b) start_row) ≡ (state_of b).node_limit
unfolding Laid offset
starts-length b q = rows-length b start_row (omega arith) ∙ sym q.counted.node-limit

pub shift-more : {b₀ b b' : List ℤ} (q : Laid b₀) (add sub lo i x : ℕ) → Shifted b₀ b lo i add sub → lo ≤ i
    → i < (state_of b₀).node_limit → x ≡ start_word b i + add - sub → Rowed start_row b b' (set (row (rows_of b) start_row) i x)
    → Shifted b₀ b' lo (i + 1) add sub
shift-more {b₀} {b} {b'} q add sub lo i x a h k e r =
    wrote-more lo (i + 1) i x (omega arith) a r (omega (arith, starts-length b₀ q)) (rw (a.above i (omega arith)) at e)
    (omega arith) (omega arith) (omega arith) (omega arith)

-- nothing moves where a stretch stays, and no start changes where as much comes as goes
pub moved_none : (b : List ℤ) (from to n : ℕ) → Laid b → from ≡ to → Copied b b from to n
moved_none b from to n q e =
    wrote_none 18 b to (to + n) (λ p. get_or (store_of b) (from + (p - to)) 0) q
    (λ p x y. ap (λ i. get_or (store_of b) i 0) (let z : p ≡ from + (p - to) = omega arith in z))

pub shifted_none : (b : List ℤ) (add sub lo hi : ℕ) → Laid b → add ≡ sub → Shifted b b lo hi add sub
shifted_none b add sub lo hi q e = wrote_none 15 b lo hi (λ p. start_word b p + add - sub) q (λ p x y. omega arith)
