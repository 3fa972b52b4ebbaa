use mathlib.Core.Path.{sym, ◌∙◌}
use Rattle.graph.specs.Opening.{virtuals_from}
use Rattle.table_refuse.specs.Refuse.{defects_in_range}
use Rattle.table_words.specs.laws.Words.{below_more}
use Rattle.table_refuse.proofs.refuse.defects_in_range.Goals as goal

pub all_distinct-requires : goal.all_distinct-requires
unfolding virtuals_from
all_distinct-requires c = below_more c.args.v 1024 c.requires _ (sym c.virtuals_ok.ensures ∙ c.if-virtuals_ok.true)

pub returns-then-virtuals_ok : goal.returns-then-virtuals_ok
unfolding defects_in_range virtuals_from
returns-then-virtuals_ok c = rw (sym c.virtuals_ok.ensures ∙ c.if-virtuals_ok.true) c.all_distinct.ensures

pub returns-else-virtuals_ok : goal.returns-else-virtuals_ok
unfolding defects_in_range virtuals_from
returns-else-virtuals_ok c = rw (sym c.virtuals_ok.ensures ∙ c.if-virtuals_ok.false)
