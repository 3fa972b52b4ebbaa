use Rattle.std.proofs.Common.{refl}
use Rattle.std.proofs.lemmas.Result.{err_from_is_err_and}
use Rattle.refusal.specs.Refusal.{number-some}
use Rattle.round.specs.laws.Group.{prepared-to, prepared-ok, same-limit, group-stopped, group-refused, group-asked}
use Rattle.round.specs.laws.Askable.{prepared-askable}
use Prim.Native.Nat.{◌*◌}
use mathlib.Core.Path.{ap, sym, ◌∙◌}
use borrow.Author.Rules.{rules}
use Rattle.round.proofs.group.compute_maximum_update_length.Goals as goal

pub returns-in_err-in_turn : goal.returns-in_err-in_turn
returns-in_err-in_turn c =
    let p = err_from_is_err_and c.from_residual.result c.from_residual.ensures.1 in
    rw (p.1, p.2)
    (let p = c.in_err-in_turn.ensures in (group-stopped _ _ _ p.0 _ (number-some _), p.1))

pub first_refusal-requires : goal.first_refusal-requires
first_refusal-requires c =
    let p = c.in_ok-in_turn.ensures in
    prepared-askable _ _ _ c.requires.0
    (prepared-to _ _ _ p.0).block (prepared-ok _ _ _ p.0 refl)

pub returns-in_err-first_refusal : goal.returns-in_err-first_refusal
returns-in_err-first_refusal c =
    let p = err_from_is_err_and c.from_residual-in_err-first_refusal.result c.from_residual-in_err-first_refusal.ensures.1 in
    rw (p.1, p.2)
    (let p = c.in_ok-in_turn.ensures in (
      group-refused _ _ _ p.0 refl _ c.in_err-first_refusal.ensures _
          (number-some _),
      p.1,
    ))

pub ask-requires : goal.ask-requires
ask-requires c =
    let p = c.in_ok-in_turn.ensures in (
      prepared-askable _ _ _ c.requires.0 (prepared-to _ _ _ p.0).block
          (prepared-ok _ _ _ p.0 refl),
      c.requires.1 ∙ ap (λ n. 5 * n) (sym (same-limit _ _ _ p.0)),
    )

pub returns : goal.returns
returns c =
    let p = c.in_ok-in_turn.ensures in (
      group-asked _ _ _ p.0 refl _
          c.in_ok-first_refusal.ensures _
          refl c.ask.ensures,
      p.1,
    )
