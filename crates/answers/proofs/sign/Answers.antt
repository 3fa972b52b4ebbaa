use Rattle.answers.specs.Answer.{flag}
use mathlib.Core.Path.{◌≡◌, sym, ap, ◌∙◌}
use mathlib.Core.Bool.{true, false}
use lib.Signed.{non_neg}
use mir.Facts.{to_z-of_z}
use Rattle.answers.proofs.sign.Goals as goal

pub returns-then-non_negative : goal.returns-then-non_negative
unfolding flag
returns-then-non_negative c =
    let e : non_neg c.args.x ≡ true =
    sym (ap non_neg (to_z-of_z c.ranges.x)) ∙ sym c.non_negative.ensures ∙ c.if-non_negative.true in
    rw e

pub returns-else-non_negative : goal.returns-else-non_negative
unfolding flag
returns-else-non_negative c =
    let e : non_neg c.args.x ≡ false =
    sym (ap non_neg (to_z-of_z c.ranges.x)) ∙ sym c.non_negative.ensures ∙ c.if-non_negative.false in
    rw e
