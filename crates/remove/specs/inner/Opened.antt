-- A step of the opened state, as the code makes it.
use Rattle.std.specs.Prelude.{ℕ}
use Rattle.graph.specs.State.{State, with_holder}

-- side s gets the holder x
unfoldable pub set_holder : ℕ → State → ℕ → State
set_holder x c s = with_holder c s x
