-- A row of a block, as a part of its words.
use Rattle.std.specs.Prelude.{ℕ, ◌<◌, ◌≡◌, List, ℤ, length, get_or}
use Rattle.graph.specs.Word.{word_at}
use Rattle.graph.specs.Layout.{rows_of, row}

-- the words r are row k of the block b, which has n numbers
pub record RowPart (b : List ℤ) (k n : ℕ) (r : List ℤ) : Type 0 where
  pub size : length r ≡ n
  pub words : (i : ℕ) → i < n → word_at r i ≡ get_or (row (rows_of b) k) i 0
