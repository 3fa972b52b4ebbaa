use native.Mathlib.Omega.{arith}
use mathlib.Core.Path.{sym, ◌∙◌}
use borrow.Author.Tests.{lt-ltb, le-ltb}
use Rattle.graph.specs.Layout.{state_of}
use Rattle.records.specs.Record.{field}
use Rattle.record_call.specs.laws.Asking.{circle-length}
use Rattle.record_call.specs.laws.Long.{long-state, long-circle}
use Rattle.record_call.proofs.long_circle.long_refusal.Goals as goal

pub returns-then-field-gt-SHRINK : goal.returns-then-field-gt-SHRINK
returns-then-field-gt-SHRINK c =
    let s = c.args in
    sym (long-state (state_of s.b.now) (field s.body.now 0) s.body.now _
    (lt-ltb 2 (field s.body.now 0) (rw c.field.ensures.0 at c.if-field-gt-SHRINK.true)))

pub returns : goal.returns
returns c =
    c.entries_refusal.ensures
    ∙ sym (long-circle (state_of c.args.b.now) (field c.args.body.now 0) c.args.body.now _
    (le-ltb 2 (field c.args.body.now 0) (rw c.field.ensures.0 at c.if-field-gt-SHRINK.false))
    (omega (arith, c.requires.2, circle-length c.requires.1)))
