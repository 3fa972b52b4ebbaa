use native.Mathlib.Omega.{arith}
use mathlib.Core.Path.{sym, ◌∙◌}
use Rattle.graph.specs.Layout.{memory_fits}
use Rattle.graph.specs.Form.{Sized}
use Rattle.graph.specs.laws.Size.{sized_of}
use borrow.Author.Rules.{rules}
use Rattle.memory_tests.proofs.refuse.measured.Goals.{Then-sized}
use Rattle.memory_tests.proofs.refuse.measured.Goals as goal

sizes : (c : Then-sized) → Sized c.args.b.now
sizes c = sized_of c.args.b.now (sym c.sized.ensures ∙ c.if-sized.true)

pub word-v-requires : goal.word-v-requires
word-v-requires c = let z = sizes c in omega arith

pub word-e-requires : goal.word-e-requires
word-e-requires c = let z = sizes c.before in omega arith

pub scratch_length-requires : goal.scratch_length-requires
scratch_length-requires c = let z = sizes c.before.before in omega (arith, c.word-e.ensures.0)

pub returns-then-sized : goal.returns-then-sized
unfolding memory_fits
returns-then-sized c = rw (sym c.sized.ensures ∙ c.if-sized.true) (rw (c.scratch_length.ensures, c.word-e.ensures.0, c.word-v.ensures.0))

pub returns-else-sized : goal.returns-else-sized
unfolding memory_fits
returns-else-sized c = rw (sym c.sized.ensures ∙ c.if-sized.false)
