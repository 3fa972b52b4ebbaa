use Rattle.std.proofs.lemmas.Result.{err_from_is_err_and}
use Rattle.refusal.specs.Refusal.{number-some}
use Rattle.dual_module.proofs.laws.Called.{lent-refused}
use borrow.Author.Rules.{rules}
use Rattle.dual_module.proofs.set_grow_state.Goals as goal

pub returns-in_err-refusal : goal.returns-in_err-refusal
returns-in_err-refusal c =
    let p = err_from_is_err_and c.from_residual.result c.from_residual.ensures.1 in
    rw (p.1, p.2)
    (lent-refused c.in_err-refusal.ensures (number-some _) c.args.b.now _ _)
