-- What is proved of the verdict. The proofs are in laws/.
use Rattle.std.specs.Prelude.{ℕ, ◌≡◌, ◌≢◌, ◌↔◌, true, List, length, ℤ}
use Rattle.table_words.specs.Handed.{handed}
use Rattle.table_check.specs.Verdict.{Right, table_verdict}
use Rattle.table_refuse.specs.Refuse.{sizes_right, lengths_right, table_refusal}
use Rattle.table_check.specs.Outcome.{Yes, No, Refused}
use Rattle.table_check.specs.Streamed.{after_rows, ended}
use Rattle.table_check.specs.laws.Streamed.{streamed-verdict}
use Rattle.table_check.specs.laws.Verdict.{verdict-yes, verdict-no, verdict-refused}

module _ (v e : ℕ) (edges virtuals defects duals growths distances : List ℤ) where
  -- Yes exactly where nothing refuses the call and the table is right:
  -- shortest distances, feasible dual variables and the table worked out from them, on a graph of positive weights in which every vertex reaches a virtual one.
  pub yes-exactly : (table_verdict v e edges virtuals defects duals growths distances ≡ Yes)
      ↔ ((table_refusal v e edges virtuals defects duals growths distances ≡ 0) × Right (handed v edges virtuals defects duals growths distances))
  yes-exactly = verdict-yes v e edges virtuals defects duals growths distances

  -- No exactly where nothing refuses the call and one of these fails.
  pub no-exactly : (table_verdict v e edges virtuals defects duals growths distances ≡ No)
      ↔ ((table_refusal v e edges virtuals defects duals growths distances ≡ 0) × ¬ Right (handed v edges virtuals defects duals growths distances))
  no-exactly = verdict-no v e edges virtuals defects duals growths distances

  -- Refused exactly with the number of the first refusal.
  pub refused-exactly : (k : ℕ) → (table_verdict v e edges virtuals defects duals growths distances ≡ Refused k)
      ↔ ((table_refusal v e edges virtuals defects duals growths distances ≡ k) × (k ≢ 0))
  refused-exactly = verdict-refused v e edges virtuals defects duals growths distances

  -- Row by row the verdict comes out that the definition gives on the whole.
  pub row-by-row : sizes_right v e edges ≡ true → lengths_right v e defects duals growths distances ≡ true
      → ended e edges growths (after_rows v e edges virtuals defects duals growths distances (length defects)) ≡ table_verdict v e edges virtuals
      defects duals growths distances
  row-by-row = streamed-verdict v e edges virtuals defects duals growths distances
