use Rattle.answers.specs.declared.MaxUpdateLength.TheVariants.{NonZeroGrow}
use Rattle.calls.specs.Group.{found_as}
use Rattle.c_api_round.specs.Told.{group_numbers}
use Rattle.answers.specs.laws.Numbers.{tells_as}
use Rattle.answers.specs.Numbers.{length_numbers}
use borrow.Author.Rules.{sfits_of, rules}
use mir.Facts.{to_z-of_z}
use mir.Syntax.{w64}
use mathlib.Core.Path.{sym, ap, ◌∙◌}
use Rattle.c_api_round.proofs.tell_found.Goals as goal

pub returns-in-NonZeroGrow : goal.returns-in-NonZeroGrow
unfolding group_numbers
returns-in-NonZeroGrow c = tells_as c.tell_length.ensures
    (ap (λ z. length_numbers (NonZeroGrow z c.in-NonZeroGrow.e))
    (to_z-of_z {w = w64}
    (sfits_of
    (rw c.in-NonZeroGrow.is
    at c.well_formed.1.0).1.1.1.1.0.1))
    ∙ ap (λ g. group_numbers (found_as g)) (sym c.in-NonZeroGrow.is))

pub returns-in-Unlimited : goal.returns-in-Unlimited
unfolding group_numbers
returns-in-Unlimited c = tells_as c.tell_length-in-Unlimited.ensures (ap (λ g. group_numbers (found_as g)) (sym c.in-Unlimited.is))

pub returns-in-Conflicts : goal.returns-in-Conflicts
unfolding group_numbers
returns-in-Conflicts c = tells_as c.front.ensures (ap (λ g. group_numbers (found_as g)) (sym c.in-Conflicts.is))
