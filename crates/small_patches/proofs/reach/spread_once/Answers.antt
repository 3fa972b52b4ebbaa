use Rattle.small_patches.proofs.laws.Loops.{along-more, along-all}
use Rattle.small_patches.specs.Reach.{spread_along}
use Rattle.graph.specs.laws.State.{fold-none}
use Rattle.graph.specs.Opening.{edges_from}
use mathlib.Core.Path.{sym, ◌∙◌}
use borrow.Author.Rules.{rules}
use Rattle.small_patches.proofs.reach.spread_once.Goals as goal

pub loop-i-init : goal.loop-i-init
loop-i-init c = (sym (fold-none spread_along _ (edges_from c.args.edges.now)), search rules)

pub loop-i-preserved : goal.loop-i-preserved
loop-i-preserved c =
    let a = c.args in
    let more = along-more a.edges.now a.m.now c.loop-i.i (search rules) in
    (rw (c.spread_along.ensures, c.loop-i.invariant.0) (sym more), search rules)

pub returns : goal.returns
returns c =
    c.loop-i.invariant.0 ∙ along-all c.args.edges.now _ c.loop-i.i (search rules)
