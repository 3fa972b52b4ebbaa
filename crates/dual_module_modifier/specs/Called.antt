-- A change of weights on memory that a host lends (SPECIFICATION 24.1): what it answers, and what the block holds afterwards.
use Rattle.std.specs.Prelude.{ℕ, ◌%◌, Bool, ◌&&◌, not, List, ℤ, eqb, length, if◌then◌else◌}
use Rattle.graph.specs.State.{State}
use Rattle.graph.specs.Layout.{state_of, memory_refusal}
use Rattle.answers.specs.Outcome.{Answer}
use Rattle.calls.specs.Erasures.{EdgeWeight, pairs_from, modifier_refusal, load_edge_modifier}
use Rattle.dual_module.specs.Called.{Called}

-- 0, or the refusal of block, scratch and a list of m words, which must be two for each pair
unfoldable pub pairs_refusal : List ℤ → List ℤ → ℕ → ℕ
pairs_refusal b t m = if eqb (m % 2) 0 then memory_refusal b t else 1

-- an accepted list that is not empty writes
unfoldable pub modifier_writes : State → List EdgeWeight → Bool
modifier_writes c pairs = eqb (modifier_refusal c pairs) 0 && not (eqb (length pairs) 0)

-- b and t are block and scratch before, b' the block after, a the answer; scratch and list are only read
abbrev pub ModifierCalled : List ℤ → List ℤ → List ℤ → List ℤ → Answer → Type 0
ModifierCalled b t pairs b' a =
    Called (pairs_refusal b t (length pairs)) b b' a (modifier_writes (state_of b) (pairs_from pairs))
    (load_edge_modifier (state_of b) (pairs_from pairs))
