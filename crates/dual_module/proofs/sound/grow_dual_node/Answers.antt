use Rattle.answers.specs.Outcome.{told}
use Rattle.std.proofs.Common.{refl}
use Rattle.refusal.specs.Refusal.{number-some}
use Rattle.std.specs.Prelude.{◌≡◌, ◌≢◌, nat_abs}
use mathlib.Core.Path.{sym, ap, ◌∙◌}
use mir.Facts.{to_z-of_z}
use Rattle.graph.specs.Layout.{state_of}
use Rattle.memory_tests.specs.laws.Memory.{memory-accepted}
use Rattle.dual_module.proofs.laws.Called.{test-so, test-not, grow-writes, grow-still, grow-refused}
use Rattle.dual_module.proofs.laws.Sound.{passed-usable, known_same, known-done, grow-none-passes, grow-refused-passes}
use Rattle.calls.proofs.laws.Replies.{along-up}
use borrow.Author.Rules.{rules}
use Rattle.dual_module.proofs.sound.grow_dual_node.Goals as goal

pub grow_none-requires : goal.grow_none-requires
grow_none-requires c =
    ((memory-accepted c.args.b.now c.args.t.now c.requires.0).formed, sym c.magnitude.ensures.0 ∙ c.if-magnitude-eq0.true)

pub returns-then-magnitude-eq0 : goal.returns-then-magnitude-eq0
returns-then-magnitude-eq0 c =
    let q : nat_abs c.args.length ≡ 0 =
    sym (c.magnitude.ensures.0 ∙ ap nat_abs (to_z-of_z c.ranges.length)) ∙ c.if-magnitude-eq0.true in
    known_same c.args.b.now c.args.t.now c.requires.0 (ap told c.as_before.ensures.0, c.as_before.ensures.1, c.as_before.ensures.2) c.requires.1
    (grow-still (state_of c.args.b.now) c.args.n c.args.length q)
    (grow-none-passes (state_of c.args.b.now) c.args.n c.args.length q)
    (rw (to_z-of_z c.ranges.length, along-up c.args.length) at c.grow_none.ensures)

pub node_refusal-requires : goal.node_refusal-requires
node_refusal-requires c =
    (memory-accepted c.args.b.now c.args.t.now c.requires.0).formed

pub returns-in-Err : goal.returns-in-Err
returns-in-Err c =
    let e = c.in-Err.ensures in
    let q : nat_abs c.args.length ≢ 0 =
    λ q. c.if-magnitude-eq0.false
    (c.magnitude.ensures.0 ∙ ap nat_abs (to_z-of_z c.ranges.length) ∙ q) in
    known_same c.args.b.now c.args.t.now c.requires.0 (ap told c.as_before-in-Err.ensures.0, c.as_before-in-Err.ensures.1, c.as_before-in-Err.ensures.2) c.requires.1
    (grow-writes (state_of c.args.b.now) c.args.n c.args.length q ∙ test-not e (number-some _))
    (grow-refused-passes (state_of c.args.b.now) c.args.n _ e (number-some _) c.args.length)
    (grow-refused (memory-accepted c.args.b.now c.args.t.now c.requires.0).formed c.args.n _ e (number-some _)
    c.args.length q)

pub grow_dual_node-requires : goal.grow_dual_node-requires
grow_dual_node-requires c =
    passed-usable c.args.b.now c.args.t.now c.requires.0 c.clear_unless.ensures

pub returns : goal.returns
returns c =
    let p = c.grow_dual_node.ensures in
    let q : nat_abs c.args.length ≢ 0 =
    λ q. c.if-magnitude-eq0.false
    (c.magnitude.ensures.0 ∙ ap nat_abs (to_z-of_z c.ranges.length) ∙ q) in
    known-done c.args.b.now c.args.t.now c.requires.0 (ap told c.after_core.ensures.0, c.after_core.ensures.1, c.after_core.ensures.2)
    (grow-writes (state_of c.args.b.now) c.args.n c.args.length q
    ∙ test-so c.in_default.ensures refl)
    c.clear_unless.ensures p.1 (rw (to_z-of_z c.ranges.length) at p.2)
    (rw (to_z-of_z c.ranges.length) at p.0)
