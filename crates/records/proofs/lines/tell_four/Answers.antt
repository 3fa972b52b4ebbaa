use native.Mathlib.Omega.{arith}
use Rattle.records.specs.laws.Told.{four-short}
use borrow.Author.Rules.{rules}
use Rattle.records.proofs.lines.tell_four.Goals as goal

pub tell-requires : goal.tell-requires
tell-requires c =
    let few = four-short c.args.x c.args.y c.args.z c.args.u (search rules) (search rules) (search rules) (search rules) in
    (search rules, omega (arith, c.requires.1))
