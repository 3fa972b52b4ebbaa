use Rattle.std.specs.Prelude.{if◌then◌else◌}
use native.Mathlib.Omega.{arith}
use mathlib.Core.Path.{sym, ap, ◌∙◌}
use Rattle.graph.specs.Layout.{state_of}
use Rattle.calls.proofs.laws.Refuse.{good-inside}
use Rattle.record_call.specs.laws.Asking.{circle-length}
use Rattle.record_call.specs.laws.Long.{rest-bad, rest-next, rest-done}
use Rattle.record_call.proofs.long_circle.entries_refusal.Goals as goal

pub overflow_sub-k : goal.overflow_sub-k
overflow_sub-k c = omega (arith, circle-length c.requires.1)

pub overflow_sub-k-2 : goal.overflow_sub-k-2
overflow_sub-k-2 c = omega (arith, circle-length c.requires.1)

pub returns-then-bad_node : goal.returns-then-bad_node
returns-then-bad_node c =
    let s = c.args in
    let l = c.loop-i in
    sym (rest-bad (state_of s.b.now) s.body.now _ l.inner c.loop-i-test.true c.field-m.ensures.0
    (sym c.bad_node.ensures ∙ c.if-bad_node.true))
    ∙ l.invariant

pub in_blossom-inner-requires : goal.in_blossom-inner-requires
in_blossom-inner-requires c =
    (c.requires.0, good-inside (state_of c.args.b.now) _ (sym c.bad_node.ensures ∙ c.if-bad_node.false))

pub loop-i-preserved : goal.loop-i-preserved
loop-i-preserved c =
    let s = c.args in
    let l = c.loop-i in
    rw c.in_blossom-inner.ensures
    (sym (rest-next (state_of s.b.now) s.body.now _ l.inner c.loop-i-test.true c.field-m.ensures.0
    (sym c.bad_node.ensures ∙ c.if-bad_node.false))
    ∙ l.invariant)

pub returns-then-inner : goal.returns-then-inner
returns-then-inner c =
    let s = c.args in
    let l = c.loop-i in
    ap (λ t. if t then 6 else 7) (sym c.if-inner.true)
    ∙ sym (rest-done (state_of s.b.now) s.body.now _ l.inner l.i (omega arith)) ∙ l.invariant

pub returns-else-inner : goal.returns-else-inner
returns-else-inner c =
    let s = c.args in
    let l = c.loop-i in
    ap (λ t. if t then 6 else 7) (sym c.if-inner.false)
    ∙ sym (rest-done (state_of s.b.now) s.body.now _ l.inner l.i (omega arith)) ∙ l.invariant
