use Rattle.std.proofs.lemmas.Result.{err_from_is_err_and}
use Rattle.refusal.specs.Refusal.{number-some}
use Rattle.dual_module_round.specs.laws.Called.{alone-accepted, renew-replies}
use Rattle.dual_module.proofs.laws.Called.{lent-refused, call-done}
use Rattle.graph.specs.laws.Shape.{sound-active}
use mathlib.Core.Path.{refl, sym, ◌∙◌}
use Rattle.dual_module_round.proofs.renew_active_list.Goals as goal

pub returns-in_err-refusal_alone : goal.returns-in_err-refusal_alone
returns-in_err-refusal_alone c =
    let p = err_from_is_err_and c.from_residual.result c.from_residual.ensures.1 in
    rw (p.1, p.2)
    (lent-refused c.in_err-refusal_alone.ensures (number-some _) c.args.b.now _ _)

pub renew-requires : goal.renew-requires
renew-requires c =
    let a =
    alone-accepted c.args.b.now
    (sym c.in_ok-refusal_alone.ensures ∙ refl) in
    (a.0, sound-active _ a.1)

pub returns : goal.returns
returns c =
    call-done c.in_ok-refusal_alone.ensures refl
    c.args.b.now refl (renew-replies c.renew.ensures)
