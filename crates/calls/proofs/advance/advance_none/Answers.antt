use Rattle.std.proofs.lemmas.Result.{err_from_is_err_and}
use Rattle.refusal.specs.Refusal.{number-some}
use mathlib.Core.Path.{refl}
use Rattle.calls.proofs.laws.Advance.{advance-refused, advance-stay}
use Rattle.calls.proofs.advance.advance_none.Goals as goal

pub returns-in_err-node_refusal : goal.returns-in_err-node_refusal
returns-in_err-node_refusal c =
    let p = err_from_is_err_and c.from_residual.result c.from_residual.ensures.1 in
    rw (p.1, p.2)
    (advance-refused c.args.b.now c.args.n _ c.in_err-node_refusal.ensures c.requires.0 (number-some _))

pub returns : goal.returns
returns c =
    advance-stay c.args.b.now c.args.n _ c.in_ok-node_refusal.ensures refl _ refl c.requires.0
    c.requires.1
