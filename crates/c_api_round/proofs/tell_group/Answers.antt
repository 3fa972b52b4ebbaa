use Rattle.calls.specs.Group.{group_told}
use Rattle.c_api_round.specs.Told.{group_numbers}
use Rattle.answers.specs.laws.Numbers.{tells_as}
use Rattle.answers.specs.Numbers.{answer_numbers}
use Prim.Native.Nat.{ℕ}
use mathlib.Core.List.{[], ◌∷◌}
use mathlib.Core.Path.{sym, ap, ◌∙◌}
use Rattle.c_api_round.proofs.tell_group.Goals as goal

pub returns-in-Ok : goal.returns-in-Ok
returns-in-Ok c = tells_as c.tell_found.ensures (ap (λ g. group_numbers (group_told g)) (sym c.in-Ok.is))

pub returns-in-Err : goal.returns-in-Err
unfolding group_numbers answer_numbers
returns-in-Err c =
    tells_as c.front.ensures
    (ap (λ (k : ℕ). 11 ∷ k ∷ []) c.number.ensures ∙ ap (λ g. group_numbers (group_told g)) (sym c.in-Err.is))
