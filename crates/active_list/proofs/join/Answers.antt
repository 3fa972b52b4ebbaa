use Rattle.active_list.specs.laws.Joining.{join-room, joined-there, joined-behind}
use Rattle.graph.specs.Layout.{state_of}
use Rattle.graph.specs.Form.{Laid}
use mathlib.Core.Path.{sym, ◌∙◌}
use native.Mathlib.Omega.{arith}
use Rattle.active_list.proofs.join.Goals as goal

pub returns-then-stands_in : goal.returns-then-stands_in
returns-then-stands_in c = joined-there _ c.args.n c.requires.0 (sym c.stands_in.ensures ∙ c.if-stands_in.true)

pub push-requires : goal.push-requires
unfolding Laid
push-requires c =
    let q = c.requires.0.laid in (
      c.requires.0,
      omega (
        arith,
        q.counted,
        join-room (state_of c.args.b.now) c.args.n c.requires.1 c.requires.2
            (sym c.stands_in.ensures ∙ c.if-stands_in.false),
      ),
      omega (arith, q.counted, q.sized),
    )

pub returns : goal.returns
returns c =
    joined-behind _ c.args.n
    (sym c.stands_in.ensures ∙ c.if-stands_in.false)
    c.push.ensures
