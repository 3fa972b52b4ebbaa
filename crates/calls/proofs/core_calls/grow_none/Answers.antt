use Rattle.std.proofs.Common.{refl}
use Rattle.std.proofs.lemmas.Result.{err_from_is_err_and}
use Rattle.refusal.specs.Refusal.{number-some}
use Rattle.calls.proofs.laws.Replies.{none-refused, none_done}
use Rattle.calls.proofs.core_calls.grow_none.Goals as goal

pub returns-in_err-node_refusal : goal.returns-in_err-node_refusal
returns-in_err-node_refusal c =
    let p = err_from_is_err_and c.from_residual.result c.from_residual.ensures.1 in
    rw (p.1, p.2)
    (none-refused c.args.b.now c.args.n c.args.d _ c.args.length c.requires.1
    c.in_err-node_refusal.ensures c.requires.0 (number-some _))

pub returns : goal.returns
returns c =
    none_done c.args.b.now c.args.n c.args.d _ c.args.length c.requires.1 c.in_ok-node_refusal.ensures
    c.requires.0 refl
