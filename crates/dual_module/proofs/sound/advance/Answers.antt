use Rattle.std.proofs.Common.{ap}
use Rattle.answers.specs.Outcome.{told}
use Rattle.std.proofs.Common.{refl}
use Rattle.refusal.specs.Refusal.{number-some}
use mathlib.Core.Path.{sym, ◌∙◌}
use borrow.Author.Tests.{eqb-true, not-false}
use Rattle.graph.specs.Layout.{state_of}
use Rattle.memory_tests.specs.laws.Memory.{memory-accepted}
use Rattle.dual_module.proofs.laws.Called.{test-so, test-not, advance-writes, advance-still, advance-short}
use Rattle.dual_module.proofs.laws.Sound.{passed-usable, known_same, known-done, advance-still-passes, advance-short-passes}
use borrow.Author.Rules.{rules}
use Rattle.dual_module.proofs.sound.advance.Goals as goal

pub moves-requires : goal.moves-requires
moves-requires c =
    (memory-accepted c.args.b.now c.args.t.now c.requires.0).formed

pub node_refusal-requires : goal.node_refusal-requires
node_refusal-requires c =
    (memory-accepted c.args.b.now c.args.t.now c.requires.0).formed

pub returns-in-Err : goal.returns-in-Err
returns-in-Err c =
    let e = c.in-Err.ensures in
    let g = sym c.moves.ensures ∙ c.if-moves.true in
    let f = (memory-accepted c.args.b.now c.args.t.now c.requires.0).formed in
    known_same c.args.b.now c.args.t.now c.requires.0 (ap told c.as_before.ensures.0, c.as_before.ensures.1, c.as_before.ensures.2) c.requires.1
    (advance-writes (state_of c.args.b.now) c.args.n g ∙ test-not e (number-some _))
    (advance-short-passes f c.args.n _ e (number-some _) g) (advance-short f c.args.n _ e (number-some _) g)

pub advance-requires : goal.advance-requires
advance-requires c =
    passed-usable c.args.b.now c.args.t.now c.requires.0 c.clear_unless.ensures

pub returns-then-moves : goal.returns-then-moves
returns-then-moves c =
    let p = c.advance.ensures in
    let g = sym c.moves.ensures ∙ c.if-moves.true in
    known-done c.args.b.now c.args.t.now c.requires.0 (ap told c.after_core.ensures.0, c.after_core.ensures.1, c.after_core.ensures.2)
    (advance-writes (state_of c.args.b.now) c.args.n g
    ∙ test-so c.in_default.ensures refl)
    c.clear_unless.ensures p.1 p.2 p.0

pub advance_none-requires : goal.advance_none-requires
advance_none-requires c = (
  (memory-accepted c.args.b.now c.args.t.now c.requires.0).formed,
  eqb-true _ 0 (not-false _ (sym c.moves.ensures ∙ c.if-moves.false)),
)

pub returns : goal.returns
returns c =
    let g = sym c.moves.ensures ∙ c.if-moves.false in
    known_same c.args.b.now c.args.t.now c.requires.0 (ap told c.as_before-2.ensures.0, c.as_before-2.ensures.1, c.as_before-2.ensures.2) c.requires.1
    (advance-still (state_of c.args.b.now) c.args.n g)
    (advance-still-passes (state_of c.args.b.now) c.args.n g) c.advance_none.ensures
