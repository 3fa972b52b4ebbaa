use native.Mathlib.Omega.{arith}
use mathlib.Core.Path.{refl, sym}
use lib.ListN.{length}
use Rattle.std.proofs.lemmas.Result.{err_from_is_err_and}
use Rattle.refusal.specs.Refusal.{number-some}
use Rattle.memory_tests.specs.laws.Memory.{list-accepted}
use Rattle.dual_module_read.proofs.laws.Read.{list-refused, list-filled, count_none, count-so}
use Rattle.dual_module_read.proofs.contacts.Goals as goal

pub returns-in_err-list_refusal : goal.returns-in_err-list_refusal
returns-in_err-list_refusal c =
    let p = err_from_is_err_and c.from_residual.result c.from_residual.ensures.1 in
    rw (p.1, p.2)
    (list-refused c.in_err-list_refusal.ensures (number-some _), count_none c.in_err-list_refusal.ensures _ (number-some _))

pub contacts-n-requires : goal.contacts-n-requires
contacts-n-requires c =
    let l = list-accepted c.args.b.now c.args.t.now (length c.args.list.now) 3 (sym c.in_ok-list_refusal.ensures) in
    (l.0.formed, l.0.sounds, omega (arith, l.1))

pub returns : goal.returns
returns c =
    let e = c.in_ok-list_refusal.ensures in
    let p = c.contacts-n.ensures in
    (list-filled e refl p.0, count-so e refl p.1)
