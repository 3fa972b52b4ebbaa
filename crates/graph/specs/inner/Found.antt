-- Where a word of a row stands in a block.
use Rattle.std.specs.Prelude.{ℕ, ◌+◌, ◌≤◌, ◌<◌, ◌≡◌, List, ℤ, length, get_or}
use Rattle.graph.specs.Rows.{offset}
use Rattle.graph.specs.Layout.{sizes_of}

pub record InRow (b : List ℤ) (k i p : ℕ) : Type 0 where
  pub place : p ≡ offset (sizes_of b) k + i
  pub within : i < get_or (sizes_of b) k 0

-- the word at p is place i of row k, behind the header's five sizes and counts
pub record Found (b : List ℤ) (k i p : ℕ) : Type 0 where
  pub stands : InRow b k i p
  pub within : p < length b
  pub behind : 16 ≤ p
