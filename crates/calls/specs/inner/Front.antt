-- What stands at the front of a scratch while a node is inserted.
use Rattle.std.specs.Prelude.{ℕ, List, [], ℤ}
use Rattle.graph.specs.State.{State, side_count}
use Rattle.pass.specs.inner.Scratch.{note_limit, ScratchHolds}

-- the scratch of a block of state c has these entries at its front, and is zero behind them
abbrev pub FrontHolds : List ℤ → State → List ℕ → Type 0
FrontHolds t c l = ScratchHolds t (side_count c) (note_limit c) l [] []
