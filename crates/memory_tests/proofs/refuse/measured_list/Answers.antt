use native.Mathlib.Omega.{arith}
use mathlib.Core.Path.{sym, ◌∙◌}
use Rattle.graph.specs.Form.{Sized}
use Rattle.graph.specs.laws.Size.{sized_of}
use Rattle.memory_tests.specs.laws.Memory.{few_words, fits-sized}
use borrow.Author.Rules.{rules}
use Rattle.memory_tests.proofs.refuse.measured_list.Goals.{Then-measured}
use Rattle.memory_tests.proofs.refuse.measured_list.Goals as goal

sizes : (c : Then-measured) → Sized c.args.b.now
sizes c =
    sized_of c.args.b.now
    (fits-sized c.args.b.now c.args.t.now
    (sym c.measured.ensures ∙ c.if-measured.true))

pub word-e-requires : goal.word-e-requires
word-e-requires c = let z = sizes c in omega arith

pub overflow_mul-result : goal.overflow_mul-result
overflow_mul-result c =
    let z = sizes c.before in
    omega (
      arith,
      few_words c.args.k c.word-e.result c.requires
          (rw c.word-e.ensures.0 z.e-max),
    )

pub returns-then-measured : goal.returns-then-measured
returns-then-measured c = rw (sym c.measured.ensures ∙ c.if-measured.true, c.word-e.ensures.0)

pub returns-else-measured : goal.returns-else-measured
returns-else-measured c = rw (sym c.measured.ensures ∙ c.if-measured.false)
