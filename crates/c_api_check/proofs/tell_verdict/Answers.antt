use mathlib.Core.Path.{◌≡◌, refl, sym, ap, ◌∙◌}
use mathlib.Core.Bool.{Bool, true, false}
use mathlib.Core.List.{[], ◌∷◌}
use Rattle.std.specs.Prelude.{Ok}
use Rattle.answers.specs.Answer.{flag}
use Rattle.table_check.specs.Outcome.{verdict_told}
use Rattle.c_api_check.specs.Told.{verdict_numbers}
use Rattle.c_api.specs.laws.Words.{tells_as}
use Rattle.c_api.specs.Words.{answer_numbers}
use Rattle.c_api_check.proofs.tell_verdict.Goals as goal

told-as-flag : (t : Bool) → 13 ∷ flag t ∷ [] ≡ verdict_numbers (verdict_told (Ok t))
unfolding verdict_numbers flag
told-as-flag true = refl
told-as-flag false = refl

pub returns-in-Ok : goal.returns-in-Ok
returns-in-Ok c =
    let a = c.in-Ok in
    tells_as c.front.ensures
    (ap (λ k. 13 ∷ k ∷ []) c.flag.ensures.0 ∙ told-as-flag a.right
    ∙ ap (λ v. verdict_numbers (verdict_told v)) (sym a.is))

pub returns-in-Err : goal.returns-in-Err
unfolding verdict_numbers answer_numbers
returns-in-Err c =
    tells_as c.front-in-Err.ensures
    (ap (λ k. 11 ∷ k ∷ []) c.number.ensures ∙ ap (λ v. verdict_numbers (verdict_told v)) (sym c.in-Err.is))
