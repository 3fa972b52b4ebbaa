use mathlib.Core.Path.{refl}
use Rattle.records.specs.laws.Write.{written_as, written_then}
use borrow.Author.Rules.{rules}
use Rattle.records.proofs.text.two.Goals as goal

pub returns : goal.returns
returns c =
    written_as (written_then c.byte-m.ensures c.byte.ensures)
    (rw (← c.digit.ensures, ← c.digit-2.ensures) refl)
