use mir.Facts.{to_z-of_z}
use Rattle.answers.specs.Numbers.{length_numbers}
use Rattle.answers.specs.laws.Numbers.{tells_as}
use Rattle.answers.proofs.free.Goals as goal

pub returns : goal.returns
unfolding length_numbers
returns c =
    tells_as c.front.ensures
    (rw (
      c.sign.ensures,
      c.magnitude.ensures.0,
      c.flag.ensures.0,
      to_z-of_z c.ranges.x,
    ))
