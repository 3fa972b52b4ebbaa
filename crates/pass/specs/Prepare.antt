-- Preparation: passes until none is called for.
use Rattle.std.specs.Prelude.{ℕ, zero, suc, ◌+◌, true, false, eqb, if◌then◌else◌}
use Rattle.graph.specs.State.{State, vertex_count, up}
use Rattle.pass.specs.Work.{Work, finish_pass}
use Rattle.pass.specs.Grow.{grow_pass}
use Rattle.pass.specs.Shrink.{shrink_pass}

-- one pass in direction d
unfoldable pub one_pass : State → ℕ → ℕ → Work
one_pass c n d = if eqb d up then grow_pass c n else shrink_pass c n

pub record Prepared : Type 0 where
  pub state : State
  pub passes : ℕ

-- at most `fuel` more passes, after k
unfoldable pub prepare_from : ℕ → State → ℕ → ℕ → ℕ → Prepared
prepare_from zero c n d k = record { state = c; passes = k }
prepare_from (suc fuel) c n d k =
    let w : Work = one_pass c n d in
    elim w.another [ true ↦ prepare_from fuel (finish_pass w n) n d (k + 1) | false ↦ record { state = finish_pass w n; passes = k + 1 } ]

-- node n prepared in direction d: at most V + 1 passes
unfoldable pub prepare_node : State → ℕ → ℕ → Prepared
prepare_node c n d = prepare_from (suc (vertex_count c)) c n d 0
