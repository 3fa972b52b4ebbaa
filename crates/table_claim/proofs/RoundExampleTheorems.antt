-- Graph P again, with rounds: an opening, a defect at vertex 1, the length of the group, a round by 0 that is refused 14, a round by 2, a renewal
-- of the active list, and the table that is read then. So trials that are worked and trials that are refused are in lists of calls.
use Rattle.std.specs.Prelude.{ℕ, ◌≡◌, refl, true, false, List, [], ◌∷◌, ℤ, pos}
use Rattle.std.proofs.Common.{sym, ◌∙◌}
use Rattle.graph.specs.Opening.{zeros}
use Rattle.graph.specs.laws.Members.{clash}
use Rattle.memory_tests.specs.laws.Block.{block-formed}
use Rattle.answers.specs.Outcome.{Done, Refused}
use Rattle.calls.specs.Group.{NonZeroGrow}
use Rattle.calls.specs.Calls.{InsertDefect, RenewActiveList, GroupLength, Round}
use Rattle.dual_module_read.specs.Read.{TableRead}
use Rattle.dual_module_round.specs.Called.{RenewCalled, RoundCalled, GroupCalled}
use Rattle.table_claim.specs.Opens.{everything_lent}
use Rattle.table_claim.specs.Lent.{insert-defect, renew-active-list, group-length, round, none, next}
use Rattle.table_claim.specs.Run.{LentRun, run_sizes, run_start, run_calls, history_by, lent_history, WithoutBlossoms}
use Rattle.table_claim.proofs.EveryRunTheorems.{protocol-tells-history}
use Rattle.table_claim.specs.Demand3.{afresh}
use Rattle.table_claim.proofs.ExampleTheorems.{demand-on-P}
use Rattle.table_claim.proofs.LentExampleTheorems.{edges, virtuals, words, edge_words_p, scratch, block, opened_p, block_with, opening, inserted, standing, virtuals-given}

-- a second block of whatever words, and N entries of 5 numbers
abbrev second : List ℤ
second = words (zeros 140)

abbrev entries : List ℕ
entries = zeros 20

-- node 0 may grow by 4; nothing is listed, and the second block is the block
asked : GroupCalled (block_with 0) second scratch entries (block_with 0) (block_with 0) scratch entries (NonZeroGrow (pos 4) false)
unfolding everything_lent
asked = record {
  answer = refl;
  state = refl;
  formed = λ e. block-formed (block_with 0) refl refl;
  unchanged = λ e. refl;
  listed = refl;
  kept = λ e. refl;
  second = refl;
  scratch = refl;
  len = refl;
}

-- refused 14: every word is as it was, those of the second block and of the scratch too
not-moved : RoundCalled (block_with 0) second scratch (pos 0) (block_with 0) second scratch (Refused 14)
unfolding everything_lent
not-moved = record {
  answer = refl;
  state = refl;
  formed = λ e. block-formed (block_with 0) refl refl;
  unchanged = λ e. refl;
  second = refl;
  scratch = refl;
  len = refl;
}

moved : RoundCalled (block_with 0) second scratch (pos 2) (block_with 2) (block_with 2) scratch Done
unfolding everything_lent
moved = record {
  answer = refl;
  state = refl;
  formed = λ e. block-formed (block_with 2) refl refl;
  unchanged = λ e. absurd (e refl);
  second = refl;
  scratch = refl;
  len = refl;
}

-- node 0 is in Grow and stays in the list
renewed : RenewCalled (block_with 2) (block_with 2) Done
unfolding everything_lent
renewed = record { answer = refl; state = refl; formed = λ e. block-formed (block_with 2) refl refl; unchanged = λ e. clash true refl e; len = refl }

abbrev run : LentRun 4 edges virtuals
run = record {
  edge_number = 3;
  node_limit = 4;
  store_limit = 40;
  before = block;
  scratch = scratch;
  edge_words = edge_words_p;
  virtual_words = words virtuals;
  virtuals-are = virtuals-given;
  first = opened_p;
  opening-is = opening;
  exchanges = _;
  last = block_with 2;
  steps = next (insert-defect inserted) (next (group-length asked) (next (round not-moved) (next (round moved) (next (renew-active-list renewed) none))));
  present = standing;
}

-- the definitions are asked all of it: what refuses the round of 0 is in its definition
calls-fed : run_calls run ≡ InsertDefect 1 1 ∷ GroupLength ∷ Round (pos 0) ∷ Round (pos 2) ∷ RenewActiveList ∷ []
unfolding everything_lent
calls-fed = refl

-- the history, by what the host got: node 0 at vertex 1, in Grow, with dual variable 2
history-told : history_by (run_sizes run) (run_start run) [] run.exchanges ≡ record { vertex = 1; grow_state = 1; y = pos 2 } ∷ []
unfolding everything_lent
history-told = refl

history-is : lent_history run ≡ record { vertex = 1; grow_state = 1; y = pos 2 } ∷ []
history-is = sym (protocol-tells-history run) ∙ history-told

blossomless : WithoutBlossoms run
unfolding everything_lent
blossomless = refl

table-read : TableRead (block_with 2) scratch (words (zeros 6)) (words (0 ∷ 2 ∷ 2 ∷ 0 ∷ 0 ∷ 0 ∷ [])) Done
unfolding everything_lent
table-read = record { answer = refl; listed = refl }

-- the table after the round is the one afresh
from-distances : words (0 ∷ 2 ∷ 2 ∷ 0 ∷ 0 ∷ 0 ∷ []) ≡ words (afresh 4 edges virtuals (lent_history run))
from-distances = (demand-on-P.after-calls (λ a k. refl) run blossomless).table scratch (words (zeros 6)) (words (0 ∷ 2 ∷ 2 ∷ 0 ∷ 0 ∷ 0 ∷ [])) table-read
