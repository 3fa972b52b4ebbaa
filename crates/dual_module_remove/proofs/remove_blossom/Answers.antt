use Rattle.std.proofs.Common.{refl}
use Rattle.std.proofs.lemmas.Result.{err_from_is_err_and}
use Rattle.refusal.specs.Refusal.{number-some}
use Rattle.dual_module_remove.specs.Called.{remove_writes}
use Rattle.dual_module.proofs.laws.Called.{lent-refused-scratch, memory-lendable, lendable-usable, call-same-scratch, call-done-scratch, test-so, test-not}
use Rattle.remove.specs.laws.Call.{removal-refused}
use borrow.Author.Rules.{rules}
use Rattle.dual_module_remove.proofs.remove_blossom.Goals as goal

pub returns-in_err-refusal : goal.returns-in_err-refusal
returns-in_err-refusal c =
    let p = err_from_is_err_and c.from_residual.result c.from_residual.ensures.1 in
    rw (p.1, p.2)
    (lent-refused-scratch c.in_err-refusal.ensures (number-some _) c.args.b.now c.args.t.now _ _)

pub remove_refusal-requires : goal.remove_refusal-requires
remove_refusal-requires c =
    (memory-lendable c.args.b.now c.args.t.now c.in_ok-refusal.ensures refl).formed

pub returns-in_err-remove_refusal : goal.returns-in_err-remove_refusal
unfolding remove_writes
returns-in_err-remove_refusal c =
    let p = err_from_is_err_and c.from_residual-in_err-remove_refusal.result c.from_residual-in_err-remove_refusal.ensures.1 in
    rw (p.1, p.2)
    (let m = c.in_ok-refusal.ensures in
    let e = c.in_err-remove_refusal.ensures in
    let u = lendable-usable (memory-lendable c.args.b.now c.args.t.now m refl) in
    call-same-scratch m refl c.args.b.now c.args.t.now (test-not e (number-some _))
    (removal-refused u c.args.n _ e (number-some _)))

pub remove_blossom-requires : goal.remove_blossom-requires
remove_blossom-requires c =
    let m = c.in_ok-refusal.ensures in
    rw c.clear_scratch.ensures (lendable-usable (memory-lendable c.args.b.now c.args.t.now m refl))

pub returns : goal.returns
unfolding remove_writes
returns c =
    let m = c.in_ok-refusal.ensures in
    let e = c.in_ok-remove_refusal.ensures in
    let p = c.remove_blossom.ensures in
    call-done-scratch m refl c.args.b.now c.args.t.now (test-so e refl)
    c.clear_scratch.ensures p.1 p.0
