-- Opening a blossom on memory that a host lends (SPECIFICATION 18.1): what it answers, and what block and scratch hold
-- afterwards.
use Rattle.std.specs.Prelude.{ℕ, Bool, List, ℤ, eqb}
use Rattle.graph.specs.State.{State}
use Rattle.graph.specs.Layout.{state_of, memory_refusal}
use Rattle.answers.specs.Outcome.{Answer}
use Rattle.calls.specs.Remove.{remove_refusal, remove_blossom}
use Rattle.dual_module.specs.Called.{CalledWithScratch}

-- an opening that nothing refuses before it prepares writes; a refusal 15 behind it leaves what preparation leaves
unfoldable pub remove_writes : State → ℕ → Bool
remove_writes c n = eqb (remove_refusal c n) 0

-- b and t are block and scratch before, b' and t' after, a the answer
abbrev pub RemoveCalled : List ℤ → List ℤ → ℕ → List ℤ → List ℤ → Answer → Type 0
RemoveCalled b t n b' t' a =
    CalledWithScratch (memory_refusal b t) b t b' t' a (remove_writes (state_of b) n) (remove_blossom (state_of b) n)
