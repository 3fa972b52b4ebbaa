use Rattle.round_answers.specs.laws.Answers.{refusal-here, refusal-more, refusal-none}
use Rattle.std.proofs.lemmas.Result.{err_from_is_err_and}
use Rattle.refusal.specs.Refusal.{number-some}
use Rattle.answers.specs.declared.Answer.TheVariants.{Length}
use Rattle.round_trial.specs.laws.Step.{accepted-number, refused-number}
use Rattle.calls.specs.Round.{refusal_of}
use mathlib.Core.Path.{ap, ◌∙◌, refl}
use Rattle.graph.specs.Layout.{state_of}
use native.Mathlib.Omega.{arith}
use Rattle.round_answers.proofs.node_answers.first_refusal.Goals as goal

pub loop-i-init : goal.loop-i-init
loop-i-init c = refl

pub returns-in_err-answer_at : goal.returns-in_err-answer_at
returns-in_err-answer_at c =
    let p = err_from_is_err_and c.from_residual.result c.from_residual.ensures.1 in
    rw (p.1, p.2)
    (refusal-here (state_of c.args.b.now)
    (state_of c.args.b.now).active
    c.loop-i.i c.loop-i.invariant (omega arith) _
    (refused-number _ ∙ ap refusal_of c.in_err-answer_at.ensures) (number-some _))

pub loop-i-preserved : goal.loop-i-preserved
loop-i-preserved c =
    refusal-more (state_of c.args.b.now)
    (state_of c.args.b.now).active
    c.loop-i.i c.loop-i.invariant (omega arith)
    0 (accepted-number (Length _) ∙ ap refusal_of c.in_ok-answer_at.ensures)
    refl

pub returns : goal.returns
returns c =
    refusal-none (state_of c.args.b.now)
    (state_of c.args.b.now).active c.loop-i.i c.loop-i.invariant (omega arith)
