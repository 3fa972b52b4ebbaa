-- The refusals of a change of weights behind each other, as a chain.
use Rattle.std.specs.Prelude.{ℕ, ◌&&◌, List, eqb, if◌then◌else◌}
use Rattle.graph.specs.Basic.{all}
use Rattle.graph.specs.State.{State, node_count}
use Rattle.calls.specs.Erasures.{EdgeWeight, weight_in_range}

-- for a node, or for an earlier change that stands
unfoldable pub refusal_of_mark : State → ℕ
refusal_of_mark c = if eqb (node_count c) 0 && eqb c.graph.reweighted 0 then 0 else 16

-- of the weights, and behind it
unfoldable pub refusal_of_weights : State → List EdgeWeight → ℕ
refusal_of_weights c pairs = if all weight_in_range pairs then refusal_of_mark c else 4
