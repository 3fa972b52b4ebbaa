-- What a growing length that the host is told means, in the terms of matching (crate `length_theorem`): on the runs of demand 3.
use Rattle.std.specs.Prelude.{ℕ, ◌≡◌, true, List, ℤ}
use Rattle.graph.specs.State.{up}
use Rattle.graph.specs.Open.{Edge}
use Rattle.answers.specs.Outcome.{Answer}
use Rattle.dual_module.specs.Called.{LengthCalled}
use Rattle.table_theorem.specs.Runs.{Run}
use Rattle.length_theorem.specs.Meaning.{growing_length}
use Rattle.table_claim.specs.Run.{scratch_fits, LentRun, run_sizes, WithoutBlossoms}
use Rattle.table_claim.proofs.laws.EveryRun.{as_run, last-length}

module _ {v : ℕ} {edges : List Edge} {virtuals : List ℕ} (r : LentRun v edges virtuals) (h : WithoutBlossoms r) where
  -- the run of the definitions: the same opening, and the calls whose memory has its lengths
  abbrev pub defined_run : Run v edges virtuals
  defined_run = as_run r h

  -- A growing length, prepared first, is the one that the theorems of `length_theorem` speak of: conflict-is-tight, virtual-is-tight,
  -- free-length-keeps-constraints, unlimited-length-keeps-constraints, tight-node-meets-obstacle.
  pub length-told-is-growing : (t b' t' : List ℤ) (n : ℕ) (a : Answer) → scratch_fits (run_sizes r) t ≡ true → LengthCalled r.last t n up true b' t' a
      → a ≡ growing_length defined_run n
  length-told-is-growing = last-length r h
