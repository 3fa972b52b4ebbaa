use Rattle.graph.specs.Word.{word_at, to_nat}
use mir.Val.{to_z, of_z}
use mir.Syntax.{w64}
use lib.ListN.{get_or}
use lib.IntN.{pos}
use mathlib.Core.Path.{◌≡◌, ◌∙◌, ap}
use borrow.Author.Rules.{rules}
use Rattle.block_rows.proofs.row_words.number.Goals as goal

pub plain-requires : goal.plain-requires
unfolding word_at
plain-requires c =
    let x = get_or c.args.row.now c.args.i (pos 0) in
    let e : to_z w64 (of_z w64 x) ≡ x = search rules in rw e c.requires.1

pub returns : goal.returns
unfolding word_at
returns c = c.plain.ensures ∙ ap to_nat (search rules)
