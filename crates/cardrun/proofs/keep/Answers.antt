use Rattle.std.proofs.Common.{◌-◌, arith}
use Rattle.cardrun.specs.laws.Keep.{kept-all}
use Rattle.cardrun.proofs.keep.Goals as goal

pub returns : goal.returns
returns c =
    let a = c.args in
    rw c.copy_within.ensures.after (kept-all a.input.now a.i (a.n - a.i) (omega arith))
