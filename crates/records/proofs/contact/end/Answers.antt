use native.Mathlib.Omega.{arith}
use Prim.Native.Nat.{◌-◌}
use Rattle.records.specs.Text.{ascii}
use Rattle.records.specs.laws.Write.{written_as}
use Rattle.records.specs.laws.Told.{one-short}
use Rattle.records.specs.laws.Contact.{end-virtual, end-node}
use borrow.Author.Rules.{rules}
use Rattle.records.proofs.contact.end.Goals as goal

pub numbers-requires : goal.numbers-requires
numbers-requires c = omega (arith, one-short (c.args.p - 1) (search rules))

pub returns-then-p-eq0 : goal.returns-then-p-eq0
unfolding ascii
returns-then-p-eq0 c = (written_as c.word.ensures (end-virtual c.args.p (omega arith)), omega (arith, c.word.ensures.place))

pub returns-else-p-eq0 : goal.returns-else-p-eq0
returns-else-p-eq0 c =
    let n = c.numbers.ensures in
    (written_as n (end-node c.args.p (λ z. omega (arith, z))), omega (arith, n.place, one-short (c.args.p - 1) (search rules)))
