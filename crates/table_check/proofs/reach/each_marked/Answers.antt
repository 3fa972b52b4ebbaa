use borrow.Author.Rules.{rules}
use Rattle.table_words.specs.Sides.{marked}
use Rattle.graph.specs.laws.Chains.{all_of_range}
use Rattle.table_check.proofs.reach.each_marked.Goals as goal

pub returns : goal.returns
returns c = all_of_range (marked c.args.m.now) c.args.v _ _ _ c.all.ensures.ran (λ x b q k. search rules)
