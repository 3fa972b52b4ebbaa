use native.Mathlib.Omega.{arith}
use mathlib.Core.Path.{refl}
use Rattle.record_call.specs.laws.Asking.{circle-length, circle-part, opened-usable, answers-blossom}
use Rattle.record_call.proofs.one_call.blossom_in.Goals as goal

pub field-x-requires : goal.field-x-requires
field-x-requires c = omega (arith, circle-length c.requires.1)

pub insert_blossom-requires : goal.insert_blossom-requires
insert_blossom-requires c = opened-usable c.requires.0

pub returns : goal.returns
returns c =
    let e = c.insert_blossom.ensures in (
      answers-blossom c.requires.1 _ _ refl c.field-x.ensures.0
          (circle-part c.circle_into-n.new.c
          c.circle_into-n.result
          c.circle_into-n.ensures.0)
          e.0,
      e.1,
    )
