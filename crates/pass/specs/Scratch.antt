-- A scratch: words that are lent for a call, all zero before it and after it.
use Rattle.std.specs.Prelude.{ℕ, List, ℤ, pos, replicate}
use Rattle.graph.specs.State.{State}
use Rattle.graph.specs.Layout.{scratch_size}

-- a scratch that is all zero
unfoldable pub zero_scratch : ℕ → List ℤ
zero_scratch n = replicate n (pos 0)

-- the scratch that a block of state c is lent, all zero
abbrev pub scratch_of : State → List ℤ
scratch_of c = zero_scratch (scratch_size c)
