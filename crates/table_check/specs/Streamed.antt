-- The same row by row, so that the distances of one defect at a time need memory. `row-by-row` says that it is the verdict on the whole.
use Rattle.std.specs.Prelude.{ℕ, zero, suc, ◌*◌, Bool, ◌&&◌, List, ℤ, replicate, if◌then◌else◌}
use Rattle.graph.specs.Basic.{all_below}
use Rattle.graph.specs.Word.{word_at}
use Rattle.table_words.specs.Handed.{distance_in, row_of}
use Rattle.table_refuse.specs.Refuse.{distances_in_range, head_in_range}
use Rattle.table_check.specs.Tests.{positive_in, all_marked}
use Rattle.table_rows.specs.Row.{row_right, cover_marks, free_at}
use Rattle.table_check.specs.Outcome.{Verdict, Yes, No, Refused}

-- what is known after some rows: whether every number so far is in range, whether every test so far passed, and which vertices a defect covers
pub record Known : Type 0 where
  pub in_range : Bool
  pub passed : Bool
  pub marks : List ℕ

module _ (v e : ℕ) (edges virtuals defects duals growths : List ℤ) where
  -- before the first row
  unfoldable pub begun : Known
  begun = record {
    in_range = head_in_range v edges virtuals defects duals growths;
    passed = all_below (positive_in edges) (2 * e) && all_marked v e edges virtuals (replicate v 0);
    marks = replicate 1024 0;
  }

  -- after the row of defect i too
  unfoldable pub advanced : Known → List ℤ → ℕ → Known
  advanced k row i = record {
    in_range = k.in_range && distances_in_range row;
    passed = k.passed && row_right v e edges virtuals defects duals growths (distance_in row) i;
    marks = cover_marks v (distance_in row) (word_at duals i) k.marks;
  }

  -- after rows 0 to i - 1 of the distances
  unfoldable pub after_rows : List ℤ → ℕ → Known
  after_rows distances zero = begun
  after_rows distances (suc i) = advanced (after_rows distances i) (row_of v distances i) i

-- the verdict in the end
unfoldable pub ended : ℕ → (edges growths : List ℤ) → Known → Verdict
ended e edges growths k =
    if k.in_range then (if k.passed && all_below (free_at edges growths k.marks) (2 * e) then Yes else No) else Refused 4
