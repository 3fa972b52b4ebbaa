-- The refusals of an opening behind its sizes, as a chain.
use Rattle.std.specs.Prelude.{ℕ, Bool, List, ltb, if◌then◌else◌}
use Rattle.graph.specs.Basic.{all}
use Rattle.graph.specs.Open.{Edge, edge_ok}

-- the refusals behind each other: of the edges; of the virtual vertices; of the lengths
unfoldable pub refusal_of_edges : ℕ → List Edge → ℕ
refusal_of_edges v edges = if all (edge_ok v) edges then 0 else 4

unfoldable pub refusal_of_virtuals : ℕ → List Edge → List ℕ → ℕ
refusal_of_virtuals v edges virtuals = if all (λ x. ltb x v) virtuals then refusal_of_edges v edges else 3

unfoldable pub refusal_of_lengths : ℕ → List Edge → List ℕ → Bool → ℕ
refusal_of_lengths v edges virtuals fit = if fit then refusal_of_virtuals v edges virtuals else 1
