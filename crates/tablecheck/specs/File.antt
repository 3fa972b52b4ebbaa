-- A table in a file (docs/TABLE-FILE.md): what it gets.
use Rattle.std.specs.Prelude.{ℕ, ◌*◌, ◌≤◌, ◌≡◌, List, ℤ, length}
use Rattle.table_check.specs.Streamed.{after_rows}
use Rattle.table_check.specs.Verdict.{table_verdict}
use Rattle.table_check.specs.Outcome.{Verdict}

-- a is the verdict on these lists with some rows: those that were read
pub record RowsRead (v e : ℕ) (edges virtuals defects duals growths : List ℤ) (a : Verdict) : Type 0 where
  pub distances : List ℤ
  pub long : length distances ≡ length defects * v
  pub told : a ≡ table_verdict v e edges virtuals defects duals growths distances

-- the marks m are those behind some rows, those that were read
pub record RowsBegun (v e : ℕ) (edges virtuals defects duals growths : List ℤ) (m : List ℕ) : Type 0 where
  pub count : ℕ
  pub within : count ≤ length defects
  pub distances : List ℤ
  pub long : length distances ≡ count * v
  pub marks : m ≡ (after_rows v e edges virtuals defects duals growths distances count).marks
