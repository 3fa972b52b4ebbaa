use borrow.Author.Rules.{rules}
use mathlib.Core.Path.{sym, ◌∙◌}
use Rattle.table_check.specs.laws.Loops.{until-more, until-ends, until-over}
use Rattle.table_check.proofs.reach.spread.Goals as goal

pub loop-preserved : goal.loop-preserved
loop-preserved c =
    let a = c.args in
    let k = c.spread_once in
    until-more a.e a.edges.now a.v c.loop.counter _ _ (search rules) k.ensures.1
    (sym k.ensures.0 ∙ c.if-not-spread_once.false) ∙ c.loop.invariant

pub returns-then-not-spread_once : goal.returns-then-not-spread_once
returns-then-not-spread_once c =
    let a = c.args in
    let k = c.spread_once in
    until-ends a.e a.edges.now a.v c.loop.counter _ _ (search rules) k.ensures.1
    (sym k.ensures.0 ∙ c.if-not-spread_once.true) ∙ c.loop.invariant

pub returns : goal.returns
returns c = let a = c.args in until-over a.e a.edges.now a.v c.loop.counter _ c.loop.m (search rules) ∙ c.loop.invariant
