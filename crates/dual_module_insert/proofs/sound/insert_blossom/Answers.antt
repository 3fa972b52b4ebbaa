use Rattle.std.proofs.Common.{ap}
use Rattle.answers.specs.Outcome.{told}
use Rattle.std.proofs.Common.{refl}
use Rattle.refusal.specs.Refusal.{number-some}
use mathlib.Core.List.{map}
use Rattle.graph.specs.Word.{to_nat}
use Rattle.graph.specs.Layout.{state_of}
use Rattle.memory_tests.specs.laws.Memory.{memory-accepted}
use Rattle.dual_module.specs.Called.{blossom_writes}
use Rattle.dual_module.proofs.laws.Called.{lendable-usable, test-so, test-not}
use Rattle.dual_module.proofs.laws.Sound.{passed-usable, known-same-insert, known-done-insert}
use Rattle.blossom.specs.laws.Blossom.{blossom-refused}
use Rattle.blossom.specs.laws.Keeps.{blossom-refused-passes}
use borrow.Author.Rules.{rules}
use Rattle.dual_module_insert.proofs.sound.insert_blossom.Goals as goal

pub blossom_refusal-requires : goal.blossom_refusal-requires
blossom_refusal-requires c =
    (memory-accepted c.args.b.now c.args.t.now c.requires.0).formed

pub returns-in-Err : goal.returns-in-Err
unfolding blossom_writes
returns-in-Err c =
    let e = c.in-Err.ensures in
    known-same-insert c.args.b.now c.args.t.now c.requires.0 (ap told c.as_before.ensures.0, c.as_before.ensures.1, c.as_before.ensures.2) c.requires.1 (test-not e (number-some _))
    (blossom-refused-passes (state_of c.args.b.now) c.args.x (map to_nat c.args.circle.now) _ e (number-some _))
    (blossom-refused (lendable-usable (memory-accepted c.args.b.now c.args.t.now c.requires.0)) c.args.x _ (map to_nat c.args.circle.now) e
    (number-some _))

pub insert_blossom-requires : goal.insert_blossom-requires
insert_blossom-requires c =
    passed-usable c.args.b.now c.args.t.now c.requires.0 c.clear_unless.ensures

pub returns : goal.returns
unfolding blossom_writes
returns c =
    let p = c.insert_blossom.ensures in
    known-done-insert c.args.b.now c.args.t.now c.requires.0 (ap told c.after_core.ensures.0, c.after_core.ensures.1, c.after_core.ensures.2) (test-so c.in_default.ensures refl)
    c.clear_unless.ensures p.1 p.2 p.0
