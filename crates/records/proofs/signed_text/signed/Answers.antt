use native.Mathlib.Omega.{arith}
use mathlib.Core.Path.{sym, ◌∙◌, ap}
use mathlib.Core.List.{◌∷◌}
use lib.IntN.{nat_abs}
use lib.Signed.{non_neg}
use mir.Facts.{to_z-of_z}
use Rattle.records.specs.Text.{decimal}
use Rattle.records.specs.laws.Write.{decimal-short, written_as, written_then, signed-plain, signed-minus}
use borrow.Author.Rules.{rules}
use Rattle.records.proofs.signed_text.signed.Goals as goal

pub decimal-requires : goal.decimal-requires
decimal-requires c =
    let few = decimal-short c.magnitude-a.result (search rules) in omega arith

pub decimal-requires-else-non_negative : goal.decimal-requires-else-non_negative
decimal-requires-else-non_negative c =
    let few = decimal-short c.magnitude-a.result (search rules) in omega arith

pub returns-then-non_negative : goal.returns-then-non_negative
returns-then-non_negative c =
    let z = to_z-of_z c.ranges.x in
    let few = decimal-short c.magnitude-a.result (search rules) in (
      written_as c.decimal.ensures
          (ap decimal (c.magnitude-a.ensures.0 ∙ ap nat_abs z)
          ∙ sym
          (signed-plain c.args.x
          (sym (ap non_neg z) ∙ sym c.non_negative.ensures
          ∙ c.if-non_negative.true))),
      omega (arith, c.decimal.ensures.place),
    )

pub returns-else-non_negative : goal.returns-else-non_negative
returns-else-non_negative c =
    let z = to_z-of_z c.ranges.x in
    let few = decimal-short c.magnitude-a.result (search rules) in (
      written_as
          (written_then c.byte-m.ensures
          c.decimal-else-non_negative.ensures)
          (ap (λ n. 45 ∷ decimal n) (c.magnitude-a.ensures.0 ∙ ap nat_abs z)
          ∙ sym
          (signed-minus c.args.x
          (sym (ap non_neg z)
          ∙ sym c.non_negative.ensures
          ∙ c.if-non_negative.false))),
      omega (
        arith,
        c.decimal-else-non_negative.ensures.place,
        c.byte-m.ensures.place,
      ),
    )
