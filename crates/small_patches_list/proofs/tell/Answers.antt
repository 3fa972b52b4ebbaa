use Rattle.small_patches_list.specs.laws.Listing.{line-is}
use Rattle.records.specs.laws.Write.{told-as}
use Rattle.records.specs.Text.{ascii, spaced}
use mathlib.Core.Bool.{true, false}
use mathlib.Core.Path.{sym, ◌∙◌}
use native.Mathlib.Omega.{arith}
use borrow.Author.Rules.{rules}
use Rattle.small_patches_list.proofs.tell.Goals as goal

pub tell-requires : goal.tell-requires
unfolding spaced
tell-requires c = (search rules, omega arith)

pub tell-requires-else-each_reaches : goal.tell-requires-else-each_reaches
unfolding spaced
tell-requires-else-each_reaches c = (search rules, omega arith)

pub returns-then-each_reaches : goal.returns-then-each_reaches
unfolding ascii
returns-then-each_reaches c =
    let told = sym c.each_reaches.ensures ∙ c.if-each_reaches.true in
    told-as c.tell.ensures (line-is c.args.k true told)

pub returns-else-each_reaches : goal.returns-else-each_reaches
unfolding ascii
returns-else-each_reaches c =
    let told = sym c.each_reaches.ensures ∙ c.if-each_reaches.false in
    told-as c.tell-else-each_reaches.ensures (line-is c.args.k false told)
