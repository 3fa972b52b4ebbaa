use Rattle.std.proofs.lemmas.Result.{err_from_is_err_and}
use Rattle.refusal.specs.Refusal.{number-some}
use mathlib.Core.Path.{refl}
use Rattle.remove.specs.laws.Call.{removal-refused, removal-ready, removal-able, prepared-inside, prepared-sides, removal-done}
use Rattle.remove.proofs.remove_blossom.Goals as goal

pub returns-in_err-remove_refusal : goal.returns-in_err-remove_refusal
returns-in_err-remove_refusal c =
    let p = err_from_is_err_and c.from_residual.result c.from_residual.ensures.1 in
    rw (p.1, p.2)
    ((removal-refused c.requires c.args.n _ c.in_err-remove_refusal.ensures (number-some _), refl))

pub prepare_dual_node_growth-requires : goal.prepare_dual_node_growth-requires
prepare_dual_node_growth-requires c = (
  removal-ready c.requires c.args.n _ c.in_ok-remove_refusal.ensures
      refl,
  removal-able c.requires c.args.n _ c.in_ok-remove_refusal.ensures
      refl,
)

pub open_prepared-requires : goal.open_prepared-requires
open_prepared-requires c =
    let e = c.in_ok-remove_refusal.ensures in
    let z = refl in
    let p = c.prepare_dual_node_growth.ensures.0 in
    (p.block.formed, prepared-sides c.requires c.args.n _ e z p, prepared-inside c.requires c.args.n _ e z p)

pub returns : goal.returns
returns c =
    let p = c.prepare_dual_node_growth.ensures.0 in (
      removal-done c.requires c.args.n _
          c.in_ok-remove_refusal.ensures
          refl p
          c.open_prepared.ensures,
      p.scratch,
    )
