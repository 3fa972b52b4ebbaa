use Rattle.std.proofs.Common.{ap}
use Rattle.answers.specs.Outcome.{told}
use Rattle.refusal.specs.Refusal.{number-some}
use mathlib.Core.Path.{refl}
use Rattle.memory_tests.specs.laws.Memory.{memory-accepted}
use Rattle.dual_module.specs.Called.{defect_writes}
use Rattle.dual_module.proofs.laws.Called.{lendable-usable, test-so, test-not}
use Rattle.dual_module.proofs.laws.Sound.{passed-usable, known-same-insert, known-done-insert}
use Rattle.calls.proofs.laws.Defect.{defect-refused}
use borrow.Author.Rules.{rules}
use Rattle.dual_module_insert.proofs.sound.insert_defect.Goals as goal

pub defect_refusal-requires : goal.defect_refusal-requires
defect_refusal-requires c =
    (memory-accepted c.args.b.now c.args.t.now c.requires.0).formed

pub returns-in-Err : goal.returns-in-Err
unfolding defect_writes
returns-in-Err c =
    let e = c.in-Err.ensures in
    known-same-insert c.args.b.now c.args.t.now c.requires.0 (ap told c.as_before.ensures.0, c.as_before.ensures.1, c.as_before.ensures.2) c.requires.1 (test-not e (number-some _)) refl
    (defect-refused (lendable-usable (memory-accepted c.args.b.now c.args.t.now c.requires.0)) c.args.v c.args.x _ e
    (number-some _))

pub insert_defect-answer-requires : goal.insert_defect-answer-requires
insert_defect-answer-requires c =
    passed-usable c.args.b.now c.args.t.now c.requires.0 c.clear_unless.ensures

pub returns : goal.returns
unfolding defect_writes
returns c =
    let p = c.insert_defect-answer.ensures in
    known-done-insert c.args.b.now c.args.t.now c.requires.0 (refl, refl, refl) (test-so c.in_default.ensures refl)
    c.clear_unless.ensures p.1 refl p.0
