use mathlib.Core.Path.{sym, ap, ◌∙◌}
use mathlib.Core.List.{◌∷◌, [], ◌++◌}
use Rattle.answers.specs.Outcome.{told_by}
use Rattle.records.specs.Text.{ascii, spaced}
use Rattle.records.specs.Lines.{line, words_of}
use Rattle.records.specs.laws.Write.{told-as}
use Rattle.records.proofs.told.answer.Goals as goal

pub returns-in-Ok : goal.returns-in-Ok
returns-in-Ok g c =
    told-as c.accepted.ensures (ap (λ a. line c.args.k (words_of (told_by g.R.Numbered.number_of a))) (sym c.in-Ok.is))

pub returns-in-Err : goal.returns-in-Err
unfolding words_of ascii spaced
returns-in-Err g c =
    told-as c.tell_one.ensures
    (ap (λ n. line c.args.k (ascii "refused" ++ spaced (n ∷ []))) c.to_number.ensures
    ∙ ap (λ a. line c.args.k (words_of (told_by g.R.Numbered.number_of a))) (sym c.in-Err.is))
