-- What follows from the promises of the public calls; each proof cites a law.
use Rattle.std.specs.Prelude.{ℕ, ◌+◌, ◌≤◌, ◌≢◌, List, map, ℤ}
use Rattle.std.proofs.Common.{sym, ap, ◌∙◌}
use Rattle.graph.specs.Word.{to_nat}
use Rattle.graph.specs.Layout.{state_of}
use Rattle.answers.specs.Outcome.{Answer}
use Rattle.answers.specs.Outcome.{Refused}
use Rattle.answers.specs.Theorems.{same_answer}
use Rattle.calls.specs.Refuse.{entries_but}
use Rattle.calls.specs.Round.{refusal_of}
use Rattle.calls.specs.CircleStore.{circle_store}
use Rattle.calls.proofs.Theorems.{circle-store-suffices}
use Rattle.dual_module.specs.Called.{BlossomCalled}
use Rattle.dual_module.proofs.laws.CircleStore.{blossom-not-nine}

-- the insertion of a blossom is never refused 9 with 64 (2 E + V) entries above the lists of the nodes that are not in the circle
pub blossom-never-refused-9 : (b t b' t' circle : List ℤ) (x : ℕ) (a : Answer) → BlossomCalled b t x circle b' t' a
    → entries_but (state_of b) (map to_nat circle) + circle_store (state_of b) ≤ (state_of b).store_limit → a ≢ Refused 9
unfolding refusal_of
blossom-never-refused-9 b t b' t' circle x a p h e =
    blossom-not-nine b t x (map to_nat circle) (circle-store-suffices (state_of b) x (map to_nat circle) h)
    (sym (ap refusal_of (same_answer p.block.answer)) ∙ ap refusal_of e)
