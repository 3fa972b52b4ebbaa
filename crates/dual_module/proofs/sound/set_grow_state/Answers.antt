use Rattle.std.proofs.lemmas.Result.{err_from_is_err_and}
use Rattle.refusal.specs.Refusal.{number-some}
use mathlib.Core.Path.{refl}
use Rattle.memory_tests.specs.laws.Memory.{memory-accepted}
use Rattle.dual_module.specs.Called.{state_writes}
use Rattle.dual_module.proofs.laws.Called.{call_same, call-done, test-so}
use Rattle.calls.proofs.laws.Replies.{set-refused}
use borrow.Author.Rules.{rules}
use Rattle.dual_module.proofs.sound.set_grow_state.Goals as goal

pub node_refusal-requires : goal.node_refusal-requires
node_refusal-requires c =
    (memory-accepted c.args.b.now c.args.t.now c.requires).formed

pub returns-in_err-node_refusal : goal.returns-in_err-node_refusal
returns-in_err-node_refusal c =
    let p = err_from_is_err_and c.from_residual.result c.from_residual.ensures.1 in
    rw (p.1, p.2)
    (let e = c.in_err-node_refusal.ensures in
    call_same refl c.requires c.args.b.now
    (set-refused c.args.b.now c.args.n c.args.x _ e
    (memory-accepted c.args.b.now c.args.t.now c.requires).formed (number-some _)))

pub set_grow_state-requires : goal.set_grow_state-requires
set_grow_state-requires c =
    let l = memory-accepted c.args.b.now c.args.t.now c.requires in
    (l.formed, l.sounds)

pub returns : goal.returns
unfolding state_writes
returns c =
    call-done refl c.requires c.args.b.now
    (test-so c.in_ok-node_refusal.ensures refl) c.set_grow_state.ensures
