use Rattle.std.proofs.Common.{ap}
use Rattle.answers.specs.Outcome.{told}
use Rattle.std.proofs.Common.{refl}
use Rattle.refusal.specs.Refusal.{number-some}
use mathlib.Core.Path.{◌∙◌}
use Rattle.std.specs.Prelude.{true}
use Rattle.graph.specs.Layout.{state_of}
use Rattle.memory_tests.specs.laws.Memory.{memory-accepted}
use Rattle.dual_module.proofs.laws.Called.{test-so, test-not, length-writes, length-still}
use Rattle.dual_module.proofs.laws.Sound.{passed-usable, known_same, known-done}
use Rattle.calls.proofs.laws.Replies.{length-refused}
use Rattle.calls.proofs.laws.Keeps.{length-refused-passes, length-plain-passes}
use borrow.Author.Rules.{rules}
use Rattle.dual_module.proofs.sound.compute_maximum_update_length_dual_node.Goals as goal

pub node_refusal-requires : goal.node_refusal-requires
node_refusal-requires c =
    (memory-accepted c.args.b.now c.args.t.now c.requires.0).formed

pub returns-in-Err : goal.returns-in-Err
returns-in-Err c =
    let e = c.in-Err.ensures in
    let f = c.if-first.true in
    known_same c.args.b.now c.args.t.now c.requires.0 (ap told c.as_before.ensures.0, c.as_before.ensures.1, c.as_before.ensures.2) c.requires.1
    (length-writes (state_of c.args.b.now) c.args.n c.args.d f ∙ test-not e (number-some _))
    (rw f (length-refused-passes (state_of c.args.b.now) c.args.n c.args.d _ e (number-some _)))
    (rw f
    (length-refused (memory-accepted c.args.b.now c.args.t.now c.requires.0).formed c.args.n c.args.d _ true e
    (number-some _)))

pub length_prepared-requires : goal.length_prepared-requires
length_prepared-requires c =
    passed-usable c.args.b.now c.args.t.now c.requires.0 c.clear_unless.ensures

pub returns-then-first : goal.returns-then-first
returns-then-first c =
    let p = c.length_prepared.ensures in
    let f = c.if-first.true in
    known-done c.args.b.now c.args.t.now c.requires.0 (ap told c.after_core.ensures.0, c.after_core.ensures.1, c.after_core.ensures.2)
    (length-writes (state_of c.args.b.now) c.args.n c.args.d f
    ∙ test-so c.in_default.ensures refl)
    c.clear_unless.ensures p.1 (rw f p.3) (rw f p.0)

pub length_unprepared-requires : goal.length_unprepared-requires
length_unprepared-requires c =
    let l = memory-accepted c.args.b.now c.args.t.now c.requires.0 in
    (l.formed, l.sounds)

pub returns : goal.returns
returns c =
    let f = c.if-first.false in
    known_same c.args.b.now c.args.t.now c.requires.0 (ap told c.as_before-2.ensures.0, c.as_before-2.ensures.1, c.as_before-2.ensures.2) c.requires.1
    (length-still (state_of c.args.b.now) c.args.n c.args.d f)
    (rw f (length-plain-passes (state_of c.args.b.now) c.args.n c.args.d)) (rw f c.length_unprepared.ensures)
