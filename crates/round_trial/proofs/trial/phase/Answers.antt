use Rattle.std.proofs.Common.{refl}
use Rattle.std.proofs.lemmas.Result.{err_from_is_err_and}
use Rattle.refusal.specs.Refusal.{number-some}
use Rattle.std.specs.Prelude.{length}
use mathlib.Core.Path.{ap, ◌∙◌}
use Rattle.round_trial.specs.laws.Trying.{trying-none, trying-more, trying-stop, trying-all}
use native.Mathlib.Omega.{arith}
use Rattle.round_trial.proofs.trial.phase.Goals as goal

pub loop-i-init : goal.loop-i-init
loop-i-init c = trying-none _ _ _ _ c.requires.0

pub call_at-requires : goal.call_at-requires
call_at-requires c =
    let l = c.loop-i in (
      l.invariant.going,
      omega (arith, ap length l.invariant.same.active, c.active_count-k.ensures.0),
      c.requires.1,
    )

pub returns-in_err-call_at : goal.returns-in_err-call_at
returns-in_err-call_at c =
    let p = err_from_is_err_and c.from_residual.result c.from_residual.ensures.1 in
    rw (p.1, p.2)
    (let l = c.loop-i in
    let p = c.in_err-call_at.ensures in
    trying-stop _ _ _ _ _ _ _ l.invariant
    (omega (arith, c.active_count-k.ensures.0)) _ _ _
    p.0 p.1 (number-some _))

pub loop-i-preserved : goal.loop-i-preserved
loop-i-preserved c =
    let l = c.loop-i in
    let p = c.in_ok-call_at.ensures in
    trying-more _ _ _ _ _ _ _ l.invariant
    (omega (arith, c.active_count-k.ensures.0)) _ _ _
    p.0 p.1 refl

pub returns : goal.returns
returns c = trying-all _ _ _ _ _ _ _ c.loop-i.invariant (omega (arith, c.active_count-k.ensures.0))
