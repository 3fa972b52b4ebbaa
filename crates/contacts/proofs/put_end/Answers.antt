use mir.Syntax.{w64}
use mathlib.Core.Path.{◌∙◌, ap}
use mir.Facts.{to_z-of_z}
use lib.ListN.{set}
use borrow.Author.Rules.{sfits_of}
use Rattle.contacts.proofs.put_end.Goals as goal

pub returns : goal.returns
returns c = ap (set c.args.list.now c.args.i) (to_z-of_z {w = w64} (sfits_of c.end_word.type_inv) ∙ c.end_word.ensures)
