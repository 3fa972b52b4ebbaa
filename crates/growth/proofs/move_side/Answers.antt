use Rattle.growth.specs.Growth.{move_side}
use Rattle.growth.proofs.move_side.Goals as goal

pub move_number-requires : goal.move_number-requires
move_number-requires c = rw c.growth-x.ensures.0 c.requires.2

pub set_growth-requires : goal.set_growth-requires
set_growth-requires c =
    (c.requires.0, c.requires.1, rw (c.move_number.ensures, c.growth-x.ensures.0) c.requires.3)

pub returns : goal.returns
unfolding move_side
returns c = rw (c.move_number.ensures, c.growth-x.ensures.0) at c.set_growth.ensures
