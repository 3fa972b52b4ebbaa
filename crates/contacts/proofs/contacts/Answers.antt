use native.Mathlib.Omega.{arith}
use mathlib.Core.Path.{◌≡◌, sym, ◌∙◌}
use Rattle.graph.specs.State.{edge_count}
use Rattle.graph.specs.Layout.{state_of}
use Rattle.calls.specs.Contacts.{contact_of}
use Rattle.contacts.specs.laws.Listed.{below-le, below_all, put-none, put-yes, put-no}
use Rattle.contacts.proofs.contacts.Goals.{then-is_contact, else-is_contact}
use Rattle.contacts.proofs.contacts.Goals as goal

pub loop-e-init : goal.loop-e-init
loop-e-init c = put-none (state_of c.args.b.now) c.args.list.now

pub overflow_mul-k : goal.overflow_mul-k
overflow_mul-k c =
    let q = c.loop-e in
    record { fits = omega (arith, q.invariant.count, below-le (state_of c.args.b.now) q.e) }

pub put_contact-requires : goal.put_contact-requires
put_contact-requires c =
    let q = c.loop-e in (
      c.requires.0,
      c.requires.1,
      omega arith,
      omega (arith, q.invariant.count, q.invariant.room, below-le (state_of c.args.b.now) q.e, c.requires.2),
    )

pub overflow_add-k : goal.overflow_add-k
overflow_add-k c =
    let q = c.loop-e in
    record { fits = omega (arith, q.invariant.count, below-le (state_of c.args.b.now) q.e) }

pub loop-e-preserved : goal.loop-e-preserved
unfolding contact_of
loop-e-preserved c =
    let q = c.loop-e in
    let y = c.is_contact.ensures in
    elim c.if-is_contact.branch [
      | then-is_contact w ↦
          rw (w.list-is, w.k-is)
          (put-yes (state_of c.args.b.now) c.args.list.now q.e q.k (omega (arith, c.requires.2))
          (sym y ∙ w.if-is_contact.true) q.invariant w.put_contact.ensures w.put_contact.auto.list)
      | else-is_contact w ↦
          rw (w.list-is, w.k-is)
          (put-no (state_of c.args.b.now) c.args.list.now q.e q.k (sym y ∙ w.if-is_contact.false) q.invariant)
    ]

pub returns : goal.returns
returns c =
    let q = c.loop-e in
    let e : q.e ≡ edge_count (state_of c.args.b.now) = omega arith in
    let z = below_all (state_of c.args.b.now) in
    (rw (← z, ← e) q.invariant.list, rw (← z, ← e) q.invariant.count)
