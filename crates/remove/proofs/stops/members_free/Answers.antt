use Rattle.remove.specs.laws.Stops.{met-none, met_all}
use Rattle.graph.specs.Layout.{state_of}
use mathlib.Core.Path.{◌∙◌, refl}
use native.Mathlib.Omega.{arith}
use Rattle.remove.proofs.stops.members_free.Goals as goal

pub loop-m-init : goal.loop-m-init
loop-m-init c = (met-none _ _ _ 8192, refl)

pub member_free-requires : goal.member_free-requires
member_free-requires c =
    let q = c.loop-m.invariant in (
      c.requires.0,
      c.requires.1,
      omega arith,
      c.requires.2,
      c.requires.3,
      omega
          (arith, q.1, c.requires.0.sides-max),
      q.0,
    )

pub loop-m-preserved : goal.loop-m-preserved
loop-m-preserved c = (
  c.member_free.ensures.0 c.if-not-member_free.false,
  c.member_free.auto.met ∙ c.loop-m.invariant.1,
)

pub returns-then-not-member_free : goal.returns-then-not-member_free
returns-then-not-member_free c = c.member_free.ensures.1 c.if-not-member_free.true

pub returns : goal.returns
returns c =
    met_all (state_of c.args.b.now) c.args.n c.loop-m.m c.args.own.now c.loop-m.met
    (omega arith) c.loop-m.invariant.0
