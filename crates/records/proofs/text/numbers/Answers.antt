use borrow.Author.Rules.{rules}
use native.Mathlib.Omega.{arith}
use mathlib.Core.Path.{ap}
use lib.Seq.{take_all}
use Rattle.records.specs.Text.{spaced}
use Rattle.records.specs.laws.Write.{written_none, numbers_more, number_fits, written_as}
use Rattle.records.proofs.text.numbers.Goals as goal

pub loop-x-init : goal.loop-x-init
unfolding spaced
loop-x-init c = written_none _ _

pub number-m-requires : goal.number-m-requires
number-m-requires c =
    let room = number_fits c.args.ns.now c.loop-x.x-index (search rules) in
    omega (arith, c.loop-x.invariant.place)

pub loop-x-preserved : goal.loop-x-preserved
loop-x-preserved c =
    numbers_more c.args.ns.now c.loop-x.x-index (search rules) c.loop-x.invariant c.number-m.ensures

pub returns : goal.returns
returns c = written_as c.loop-x.invariant (ap spaced (take_all c.loop-x.x-index c.args.ns.now (search rules)))
