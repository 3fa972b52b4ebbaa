use Rattle.std.proofs.Common.{ap}
use Rattle.answers.specs.Outcome.{told}
use Rattle.std.proofs.Common.{refl}
use Rattle.refusal.specs.Refusal.{number-some}
use Rattle.graph.specs.Layout.{state_of}
use Rattle.memory_tests.specs.laws.Memory.{memory-accepted}
use Rattle.dual_module.specs.Called.{prepare_writes}
use Rattle.dual_module.proofs.laws.Called.{test-so, test-not}
use Rattle.dual_module.proofs.laws.Sound.{passed-usable, known_same, known-done}
use Rattle.calls.proofs.laws.Replies.{prepare-refused}
use Rattle.calls.proofs.laws.Keeps.{prepare-refused-passes}
use borrow.Author.Rules.{rules}
use Rattle.dual_module.proofs.sound.prepare_dual_node_growth.Goals as goal

pub node_refusal-requires : goal.node_refusal-requires
node_refusal-requires c =
    (memory-accepted c.args.b.now c.args.t.now c.requires.0).formed

pub returns-in-Err : goal.returns-in-Err
unfolding prepare_writes
returns-in-Err c =
    let e = c.in-Err.ensures in
    known_same c.args.b.now c.args.t.now c.requires.0 (ap told c.as_before.ensures.0, c.as_before.ensures.1, c.as_before.ensures.2) c.requires.1
    (test-not e (number-some _))
    (prepare-refused-passes (state_of c.args.b.now) c.args.n c.args.d _ e (number-some _))
    (prepare-refused (memory-accepted c.args.b.now c.args.t.now c.requires.0).formed c.args.n c.args.d _ e (number-some _))

pub prepare_dual_node_growth-requires : goal.prepare_dual_node_growth-requires
prepare_dual_node_growth-requires c =
    passed-usable c.args.b.now c.args.t.now c.requires.0 c.clear_unless.ensures

pub returns : goal.returns
unfolding prepare_writes
returns c =
    let p = c.prepare_dual_node_growth.ensures in
    known-done c.args.b.now c.args.t.now c.requires.0 (ap told c.after_core.ensures.0, c.after_core.ensures.1, c.after_core.ensures.2) (test-so c.in_default.ensures refl)
    c.clear_unless.ensures p.1 p.2 p.0
