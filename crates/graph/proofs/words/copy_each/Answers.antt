use mathlib.Core.Path.{ap, ◌∙◌}
use Rattle.std.specs.Prelude.{◌++◌, set, take, drop}
use lib.ListN.{length-set}
use Rattle.graph.proofs.Copies.{copied-more}
use Rattle.graph.proofs.words.copy_each.Goals as goal

pub loop-i-preserved : goal.loop-i-preserved
loop-i-preserved g c =
    let l = c.loop-i in
    let s = c.args.from.now in
    let d = c.args.to.now in
    let x = c.index-from-i in (
      ap (λ w. set w l.i x.result) l.invariant.0
          ∙ ap (λ v. set (take l.i s ++ drop l.i d) l.i v) x.is
          ∙ copied-more s d l.i x.result c.loop-i-test.true c.requires,
      length-set l.to l.i x.result ∙ l.invariant.1,
    )
