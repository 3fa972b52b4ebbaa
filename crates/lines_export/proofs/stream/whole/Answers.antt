use lib.Dec.{leb}
use mathlib.Core.Path.{sym, ◌∙◌}
use lib.ListN.{length}
use Prim.Native.Nat.{◌-◌}
use borrow.Author.Tests.{leb-true, leb-false}
use Rattle.graph.specs.laws.Members.{by-test}
use native.Mathlib.Omega.{arith}
use Rattle.lines_export.specs.laws.Stream.{whole-yes, whole-no}
use borrow.Author.Rules.{rules}
use Rattle.lines_export.proofs.stream.whole.Goals as goal

pub returns-then-n-lt2 : goal.returns-then-n-lt2
returns-then-n-lt2 c = (sym (whole-no _ _ (omega arith)), λ e. omega arith)

pub returns : goal.returns
returns c =
    let e = c.pair.ensures in
    let n = length c.args.records.now - c.args.i - 2 in (
      by-test (leb c.pair.result n)
          (λ q. q ∙ sym (whole-yes _ _ (omega (arith, leb-true c.pair.result n q, e.0))))
          (λ q. q ∙ sym (whole-no _ _ (omega (arith, leb-false c.pair.result n q, e.0)))),
      λ q. omega (arith, leb-false c.pair.result n q, e.1),
    )
