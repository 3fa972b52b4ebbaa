-- What a loop that writes a row has done.
use Rattle.std.specs.Prelude.{ℕ, ◌+◌, ◌-◌, ◌≤◌, ◌<◌, ◌≡◌, List, ℤ, length, get_or}
use Rattle.graph.specs.Word.{word_at}
use Rattle.graph.specs.Layout.{rows_of, row}
use Rattle.graph.specs.inner.Form.{Rowed}
use Rattle.graph.specs.inner.Lists.{store_of, start_word}
use Rattle.graph.specs.Rows.{start_row, store_row}

-- after b₀, row k of b has f p at each place p from lo up to hi, and all else of b is as it was
pub record Wrote (k : ℕ) (b₀ b : List ℤ) (lo hi : ℕ) (f : ℕ → ℕ) : Type 0 where
  pub still : Rowed k b₀ b (row (rows_of b) k)
  pub inside : (p : ℕ) → lo ≤ p → p < hi → get_or (row (rows_of b) k) p 0 ≡ f p
  pub below : (p : ℕ) → p < lo → get_or (row (rows_of b) k) p 0 ≡ get_or (row (rows_of b₀) k) p 0
  pub above : (p : ℕ) → hi ≤ p → get_or (row (rows_of b) k) p 0 ≡ get_or (row (rows_of b₀) k) p 0
  pub size : length (row (rows_of b) k) ≡ length (row (rows_of b₀) k)

-- the n words of the store at `from` are copied to `to`
abbrev pub Copied : List ℤ → List ℤ → ℕ → ℕ → ℕ → Type 0
Copied b₀ b from to n = Wrote store_row b₀ b to (to + n) (λ p. get_or (store_of b₀) (from + (p - to)) 0)

-- the n words of t from s on are put into the store at a
abbrev pub Filled : List ℤ → List ℤ → List ℤ → ℕ → ℕ → ℕ → Type 0
Filled b₀ b t s a n = Wrote store_row b₀ b a (a + n) (λ p. word_at t (s + (p - a)))

-- the starts of the nodes from lo up to hi are larger by add and smaller by sub
abbrev pub Shifted : List ℤ → List ℤ → ℕ → ℕ → ℕ → ℕ → Type 0
Shifted b₀ b lo hi add sub = Wrote start_row b₀ b lo hi (λ p. start_word b₀ p + add - sub)
