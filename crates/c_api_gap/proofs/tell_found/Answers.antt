use mathlib.Core.Path.{sym, ap}
use Rattle.c_api.specs.laws.Words.{tells_as}
use Rattle.c_api_gap.specs.Told.{found_numbers}
use borrow.Author.Rules.{rules}
use Rattle.c_api_gap.proofs.tell_found.Goals as goal

pub returns-in-Inner : goal.returns-in-Inner
unfolding found_numbers
returns-in-Inner c =
    tells_as c.front.ensures (ap found_numbers (sym c.in-Inner.is))

pub returns-in-Over : goal.returns-in-Over
unfolding found_numbers
returns-in-Over c =
    tells_as c.front-in-Over.ensures (ap found_numbers (sym c.in-Over.is))

pub returns-in-Left : goal.returns-in-Left
unfolding found_numbers
returns-in-Left c =
    tells_as c.front-in-Left.ensures (ap found_numbers (sym c.in-Left.is))
