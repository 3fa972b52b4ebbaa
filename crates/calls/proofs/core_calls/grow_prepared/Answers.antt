use Rattle.std.proofs.Common.{refl}
use Rattle.std.proofs.lemmas.Result.{err_from_is_err_and}
use Rattle.refusal.specs.Refusal.{number-some}
use mathlib.Core.Path.{sym, ◌∙◌}
use Rattle.graph.specs.Layout.{state_of}
use Rattle.growth.proofs.laws.Moving.{growing-of}
use Rattle.calls.proofs.laws.Replies.{growth-refused, growth-done}
use Rattle.calls.proofs.core_calls.grow_prepared.Goals as goal

pub returns-in_err-grow_check : goal.returns-in_err-grow_check
returns-in_err-grow_check c =
    let p = err_from_is_err_and c.from_residual.result c.from_residual.ensures.1 in
    rw (p.1, p.2)
    (growth-refused c.args.b.now c.args.n c.args.d c.args.l _ c.in_err-grow_check.ensures c.requires.0
    (number-some _))

pub grow_apply-requires : goal.grow_apply-requires
grow_apply-requires c = (
  c.requires.0,
  c.requires.1.node,
  growing-of (state_of c.args.b.now) c.args.n c.args.d c.args.l c.requires.1
      (sym c.in_ok-grow_check.ensures ∙ refl),
)

pub returns : goal.returns
returns c =
    growth-done c.args.b.now c.args.n c.args.d c.args.l _
    c.in_ok-grow_check.ensures refl
    c.grow_apply.ensures
