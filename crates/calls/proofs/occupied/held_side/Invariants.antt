use Rattle.std.specs.Prelude.{◌≡◌, ◌+◌, drop}
use Rattle.graph.specs.Basic.{any}
use Rattle.graph.specs.State.{sides_at}
use Rattle.graph.specs.Layout.{state_of}
use Rattle.calls.specs.Occupied.{is_held, read_until_held}
use Rattle.calls.proofs.occupied.held_side.Given as goal

abbrev pub invariant-loop-i : goal.invariant-loop-i
invariant-loop-i l =
    let c = state_of l.b in
    let at = sides_at c l.v in
    (any (is_held c) (drop l.i at) ≡ any (is_held c) at)
    × (l.i + read_until_held c (drop l.i at) ≡ read_until_held c at)
