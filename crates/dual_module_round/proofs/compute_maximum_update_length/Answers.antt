use Rattle.std.proofs.Common.{refl}
use Rattle.std.proofs.lemmas.Result.{err_from_is_err_and}
use Rattle.refusal.specs.Refusal.{number-some}
use Rattle.dual_module_round.specs.laws.Called.{group-refuses, trial-lent, group-lent, second-usable, group-before, group-on-trial, group-as}
use Rattle.graph.specs.Layout.{state_of}
use lib.ListN.{length}
use Prim.Native.Nat.{◌*◌}
use mathlib.Core.Path.{sym, ap, ◌∙◌}
use Rattle.dual_module_round.proofs.compute_maximum_update_length.Goals as goal

pub returns-in_err-group_refusal : goal.returns-in_err-group_refusal
returns-in_err-group_refusal c =
    let p = err_from_is_err_and c.from_residual.result c.from_residual.ensures.1 in
    rw (p.1, p.2)
    (group-before _ _ _ _ _ _ _ c.in_err-group_refusal.ensures (number-some _))

pub begin-requires : goal.begin-requires
begin-requires c =
    let k =
    group-lent c.args.b.now c.args.s.now c.args.t.now (length c.args.list.now)
    (sym c.in_ok-group_refusal.ensures ∙ refl) in
    (trial-lent _ _ _ k.0).1

pub compute_maximum_update_length-group-requires : goal.compute_maximum_update_length-group-requires
compute_maximum_update_length-group-requires c =
    let k =
    group-lent c.args.b.now c.args.s.now c.args.t.now (length c.args.list.now)
    (sym c.in_ok-group_refusal.ensures
    ∙ refl) in
    let g = c.begin.ensures in
    (second-usable _ _ _ _ _ k.0 g.0 g.1, k.1 ∙ ap (λ b. 5 * (state_of b).node_limit) (sym g.0))

pub end-requires : goal.end-requires
end-requires c =
    c.compute_maximum_update_length-group.auto.b
    ∙ ap length
    c.begin.ensures.0

pub returns : goal.returns
returns c =
    let j =
    sym
    c.in_ok-group_refusal.ensures
    ∙ refl in
    let k = group-lent c.args.b.now c.args.s.now c.args.t.now (length c.args.list.now) j in
    let g =
    c.begin.ensures in
    let p =
    c.compute_maximum_update_length-group.ensures in
    let e = c.end.ensures in
    group-as _ j
    (group-on-trial _ _ _ _ _ _ _ _ _ _ _ k.0 g.0 p.0 (p.1 ∙ g.1)
    (rw (c.is_err.ensures.value, group-refuses _) at e.0) e.1)
