use native.Mathlib.Omega.{arith}
use Rattle.records.specs.laws.Told.{one-short}
use borrow.Author.Rules.{rules}
use Rattle.records.proofs.lines.tell_one.Goals as goal

pub tell-requires : goal.tell-requires
tell-requires c =
    let few = one-short c.args.x (search rules) in
    (search rules, omega (arith, c.requires.1))
