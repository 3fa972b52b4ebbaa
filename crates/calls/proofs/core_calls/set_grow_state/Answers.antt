use Rattle.std.proofs.Common.{refl}
use Rattle.std.proofs.lemmas.Result.{err_from_is_err_and}
use Rattle.refusal.specs.Refusal.{number-some}
use Rattle.graph.specs.laws.Row.{becomes-then}
use native.Mathlib.Omega.{arith}
use borrow.Author.Tests.{ltb-false}
use Rattle.calls.proofs.laws.Replies.{set-refused, set-accepted, set-done}
use Rattle.graph.specs.laws.Shape.{sound-active}
use Rattle.calls.proofs.core_calls.set_grow_state.Goals as goal

pub returns-in_err-node_refusal : goal.returns-in_err-node_refusal
returns-in_err-node_refusal c =
    let p = err_from_is_err_and c.from_residual.result c.from_residual.ensures.1 in
    rw (p.1, p.2)
    (set-refused c.args.b.now c.args.n c.args.x _ c.in_err-node_refusal.ensures c.requires.0 (number-some _))

pub activate-requires : goal.activate-requires
activate-requires c =
    let a =
    set-accepted c.args.b.now c.args.n c.args.x _ c.in_ok-node_refusal.ensures
    refl in
    (c.requires.0, sound-active _ c.requires.1, a.inside)

pub set_grow_state-requires : goal.set_grow_state-requires
set_grow_state-requires c =
    let a =
    set-accepted c.args.b.now c.args.n c.args.x _
    c.in_ok-node_refusal.ensures refl in
    let l = ltb-false 2 c.args.x a.right in
    let p = c.activate.ensures in
    (p.formed, omega (arith, a.inside, p.nodes), omega (arith, l))

pub returns : goal.returns
returns c =
    let p = c.activate.ensures in
    set-done c.args.b.now c.args.n c.args.x _
    c.in_ok-node_refusal.ensures
    refl
    (becomes-then p (rw p.state at c.set_grow_state.ensures))
