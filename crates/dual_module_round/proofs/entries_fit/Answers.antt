use Rattle.graph.specs.laws.Size.{sized_of}
use mathlib.Core.Path.{refl, sym, ◌∙◌}
use native.Mathlib.Omega.{arith}
use Rattle.dual_module_round.proofs.entries_fit.Goals as goal

pub word-n-requires : goal.word-n-requires
word-n-requires c = let z = sized_of c.args.b.now (sym c.sized.ensures ∙ c.if-sized.true) in omega arith

pub overflow_mul-result : goal.overflow_mul-result
overflow_mul-result c =
    let z =
    sized_of c.args.b.now (sym c.sized.ensures ∙ c.if-sized.true) in
    omega (arith, c.word-n.ensures.0)

pub returns-then-sized : goal.returns-then-sized
returns-then-sized c = rw (sym c.sized.ensures ∙ c.if-sized.true, c.word-n.ensures.0) refl

pub returns-else-sized : goal.returns-else-sized
returns-else-sized c = rw (sym c.sized.ensures ∙ c.if-sized.false) refl
