use native.Mathlib.Omega.{arith}
use Rattle.records.specs.laws.Told.{three-short}
use borrow.Author.Rules.{rules}
use Rattle.records.proofs.lines.tell_three.Goals as goal

pub tell-requires : goal.tell-requires
tell-requires c =
    let few = three-short c.args.x c.args.y c.args.z (search rules) (search rules) (search rules) in
    (search rules, omega (arith, c.requires.1))
