use mathlib.Core.Path.{refl}
use Rattle.records.specs.laws.Write.{told-lines}
use Rattle.record_run.specs.laws.Ends.{ends-line}
use borrow.Author.Rules.{rules}
use Rattle.record_run.proofs.run.stop.Goals as goal

pub returns : goal.returns
returns g c = (told-lines c.answer-out.ensures (ends-line _ _), refl, refl)
