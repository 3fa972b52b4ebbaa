-- The gap of an edge on memory that a host lends: what is told.
use Rattle.std.specs.Prelude.{ℕ, ◌≡◌, List, ℤ, eqb, leb, if◌then◌else◌}
use Rattle.graph.specs.State.{State, edge_count}
use Rattle.graph.specs.Layout.{state_of, memory_refusal}
use Rattle.gap.specs.Gap.{edge_gap}
use Rattle.dual_module_gap.specs.Outcome.{GapAnswer}
use Rattle.dual_module_gap.specs.Outcome.{Found, Refused}

-- of edge e in state c
unfoldable pub gap_told : State → ℕ → GapAnswer
gap_told c e = if leb (edge_count c) e then Refused 3 else Found (edge_gap c e)

-- b and t are block and scratch, a is the answer
abbrev pub GapRead : List ℤ → List ℤ → ℕ → GapAnswer → Type 0
GapRead b t e a = a ≡ (if eqb (memory_refusal b t) 0 then gap_told (state_of b) e else Refused (memory_refusal b t))
