use Rattle.remove.specs.laws.Call.{opening-stops, opening-done}
use mathlib.Core.Path.{sym, ◌∙◌}
use Rattle.remove.proofs.open_prepared.Goals as goal

pub returns-then-stops_opening : goal.returns-then-stops_opening
returns-then-stops_opening c = opening-stops c.requires.0 c.args.n (sym c.stops_opening.ensures ∙ c.if-stops_opening.true)

pub returns : goal.returns
returns c =
    opening-done c.requires.0 c.args.n
    (sym c.stops_opening.ensures ∙ c.if-stops_opening.false)
    c.«open».ensures
