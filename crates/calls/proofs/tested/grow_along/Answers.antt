use Rattle.std.specs.Prelude.{◌≡◌, true, false, ◌≢◌, nat_abs}
use mathlib.Core.Path.{refl, sym, ap, ◌∙◌}
use lib.Signed.{non_neg}
use mir.Facts.{to_z-of_z}
use Rattle.graph.specs.Layout.{state_of}
use Rattle.calls.proofs.laws.Replies.{along-forth, along-back, steady-other}
use Rattle.calls.proofs.laws.Keeps.{asked-true, asked-as, along-none-passes, along-forth-asks, along-back-asks}
use Rattle.calls.proofs.tested.grow_along.Goals as goal

pub returns-then-l-eq0 : goal.returns-then-l-eq0
returns-then-l-eq0 c =
    let m : nat_abs c.args.length ≡ 0 =
    sym (c.magnitude-l.ensures.0 ∙ ap nat_abs (to_z-of_z c.ranges.length)) ∙ c.if-l-eq0.true in (
      rw (to_z-of_z c.ranges.length) at c.grow_none-answer.ensures,
      refl,
      asked-true c.args.ask (along-none-passes (state_of c.args.b.now) c.args.n c.args.d c.args.length m),
    )

pub returns-then-non_negative : goal.returns-then-non_negative
returns-then-non_negative c =
    let e = c.grow_toward.ensures in
    let m : c.magnitude-l.result
    ≡ nat_abs c.args.length =
    c.magnitude-l.ensures.0
    ∙ ap nat_abs (to_z-of_z c.ranges.length) in
    let some : nat_abs c.args.length ≢ 0 = λ q. c.if-l-eq0.false (m ∙ q) in
    let above : non_neg c.args.length ≡ true =
    sym (c.non_negative.ensures ∙ ap non_neg (to_z-of_z c.ranges.length))
    ∙ c.if-non_negative.true in (
      rw (along-forth (state_of c.args.b.now) c.args.n c.args.d c.args.length c.requires.1 some above, ← m) e.0,
      e.1,
      asked-as c.args.ask e.2
          (along-forth-asks (state_of c.args.b.now) c.args.n c.args.d c.args.length c.requires.1 some above),
    )

pub grow_toward-requires-2 : goal.grow_toward-requires-2
grow_toward-requires-2 c =
    let below : non_neg c.args.length ≡ false =
    sym (c.non_negative.ensures ∙ ap non_neg (to_z-of_z c.ranges.length))
    ∙ c.if-non_negative.false in
    (steady-other (rw (c.requires.2 below) at c.requires.0) 0, c.magnitude-l.ensures.1)

pub returns : goal.returns
returns c =
    let e = c.grow_toward-2.ensures in
    let m : c.magnitude-l.result
    ≡ nat_abs c.args.length =
    c.magnitude-l.ensures.0
    ∙ ap nat_abs (to_z-of_z c.ranges.length) in
    let below : non_neg c.args.length ≡ false =
    sym (c.non_negative.ensures ∙ ap non_neg (to_z-of_z c.ranges.length))
    ∙ c.if-non_negative.false in
    let back = along-back-asks (state_of c.args.b.now) c.args.n c.args.length below in (
      rw (c.requires.2 below, along-back (state_of c.args.b.now) c.args.n c.args.length below, ← m) e.0,
      e.1,
      rw (c.requires.2 below) (asked-as c.args.ask e.2 back),
    )
