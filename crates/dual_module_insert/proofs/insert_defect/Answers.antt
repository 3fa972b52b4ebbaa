use Rattle.std.proofs.Common.{refl}
use Rattle.std.proofs.lemmas.Result.{err_from_is_err_and}
use Rattle.refusal.specs.Refusal.{number-some}
use mathlib.Core.Path.{sym, ◌∙◌}
use Rattle.dual_module.proofs.laws.Called.{lent-refused-scratch}
use Rattle.dual_module.proofs.laws.Sound.{known-none}
use borrow.Author.Rules.{rules}
use Rattle.dual_module_insert.proofs.insert_defect.Goals as goal

pub returns-in_err-refusal : goal.returns-in_err-refusal
returns-in_err-refusal c =
    let p = err_from_is_err_and c.from_residual.result c.from_residual.ensures.1 in
    rw (p.1, p.2)
    (lent-refused-scratch c.in_err-refusal.ensures (number-some _) c.args.b.now c.args.t.now _ _)

pub insert_defect-requires : goal.insert_defect-requires
insert_defect-requires c = (sym c.in_ok-refusal.ensures ∙ refl, known-none _)
