use mathlib.Core.Path.{◌∙◌, ap}
use borrow.Author.Rules.{sfits_of}
use lib.ListN.{set}
use mir.Facts.{to_z-of_z}
use mir.Syntax.{w64}
use Rattle.graph.proofs.words.put.Goals as goal

pub returns : goal.returns
returns c = ap (set c.args.b.now c.args.i) (to_z-of_z {w = w64} (sfits_of c.to_word.type_inv) ∙ c.to_word.ensures)
