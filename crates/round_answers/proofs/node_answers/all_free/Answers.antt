use Rattle.round_answers.specs.laws.Answers.{free_more, free-not, free_all}
use mathlib.Core.Path.{ap, sym, ◌∙◌, refl}
use Rattle.calls.specs.Round.{is_free}
use Rattle.graph.specs.Layout.{state_of}
use native.Mathlib.Omega.{arith}
use Rattle.round_answers.proofs.node_answers.all_free.Goals as goal

pub loop-i-init : goal.loop-i-init
loop-i-init c = refl

pub loop-i-preserved : goal.loop-i-preserved
loop-i-preserved c =
    free_more (state_of c.args.b.now)
    (state_of c.args.b.now).active
    c.loop-i.i c.loop-i.invariant (omega arith)
    (sym (ap is_free c.answer_at.ensures) ∙ sym c.is_free.ensures ∙ c.if-not-is_free.false)

pub returns-then-not-is_free : goal.returns-then-not-is_free
returns-then-not-is_free c =
    free-not (state_of c.args.b.now)
    (state_of c.args.b.now).active
    c.loop-i.i c.loop-i.invariant (omega arith)
    (sym (ap is_free c.answer_at.ensures) ∙ sym c.is_free.ensures ∙ c.if-not-is_free.true)

pub returns : goal.returns
returns c =
    free_all (state_of c.args.b.now) (state_of c.args.b.now).active
    c.loop-i.i c.loop-i.invariant (omega arith)
