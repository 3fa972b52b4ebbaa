use Rattle.std.proofs.lemmas.Result.{err_from_is_err_and}
use Rattle.refusal.specs.Refusal.{number-some}
use mathlib.Core.Path.{refl}
use Rattle.calls.proofs.laws.Defect.{defect-refused, defect-inside, defect-small, defect-count-left, defect-class-small, defect-state-small, defect-read, defect-room, defect-joins, defect-done, defect-wiped}
use Rattle.calls.proofs.defect.insert_defect.Goals as goal

pub returns-in_err-defect_refusal : goal.returns-in_err-defect_refusal
returns-in_err-defect_refusal c =
    let p = err_from_is_err_and c.from_residual.result c.from_residual.ensures.1 in
    rw (p.1, p.2)
    ((defect-refused c.requires c.args.v c.args.x _ c.in_err-defect_refusal.ensures (number-some _), refl))

pub hold_defect-l-requires : goal.hold_defect-l-requires
hold_defect-l-requires c = let e = c.in_ok-defect_refusal.ensures in
    let z = refl in
    let en = c.node_count-n.ensures.0 in
    (c.requires.formed, defect-inside c.requires c.args.v c.args.x _ e z, rw en (defect-small c.requires c.args.v c.args.x _ e z), c.requires.scratch)

pub push_node-requires : goal.push_node-requires
push_node-requires c = let e = c.in_ok-defect_refusal.ensures in
    let z = refl in
    let en = c.node_count-n.ensures.0 in
    let r = c.hold_defect-l in
    let f = r.ensures in (
      f.0.formed,
      defect-count-left c.requires c.args.v c.args.x _ e z _ r.result en f.0 f.1 f.2,
      defect-class-small c.requires c.args.v c.args.x _ e z,
      defect-state-small c.requires c.args.v c.args.x _ e z,
      defect-read c.requires c.args.v c.args.x _ e z _ r.result en f.0 f.1 f.2,
      defect-room c.requires c.args.v c.args.x _ e z _ r.result en f.0 f.1 f.2,
    )

pub join-requires : goal.join-requires
join-requires c = let e = c.in_ok-defect_refusal.ensures in
    let z = refl in
    let en = c.node_count-n.ensures.0 in
    let r = c.hold_defect-l in
    let f = r.ensures in
    defect-joins c.requires c.args.v c.args.x _ e z _ r.result en f.0 f.1 f.2 c.push_node.ensures

pub returns : goal.returns
returns c =
    let e =
    c.in_ok-defect_refusal.ensures in
    let z =
    refl in
    let en =
    c.node_count-n.ensures.0 in
    let r = c.hold_defect-l in
    let f = r.ensures in (
      defect-done c.requires c.args.v c.args.x _ e z _ r.result en f.0 f.1 f.2
          c.push_node.ensures
          c.join.ensures,
      defect-wiped c.requires c.args.v c.args.x _ e z _ r.result en f.0 f.1 f.2
          c.wipe.ensures,
    )
