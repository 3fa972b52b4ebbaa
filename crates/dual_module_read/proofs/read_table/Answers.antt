use Rattle.std.proofs.Common.{refl}
use Rattle.std.proofs.lemmas.Result.{err_from_is_err_and}
use Rattle.refusal.specs.Refusal.{number-some}
use native.Mathlib.Omega.{arith}
use mathlib.Core.Path.{sym, ◌∙◌}
use lib.ListN.{length}
use Rattle.memory_tests.specs.laws.Memory.{list-accepted}
use Rattle.dual_module_read.proofs.laws.Read.{list-refused, list-filled, table-placed}
use borrow.Author.Rules.{rules}
use Rattle.dual_module_read.proofs.read_table.Goals as goal

pub returns-in_err-list_refusal : goal.returns-in_err-list_refusal
returns-in_err-list_refusal c =
    let p = err_from_is_err_and c.from_residual.result c.from_residual.ensures.1 in
    rw (p.1, p.2)
    (list-refused c.in_err-list_refusal.ensures (number-some _))

pub read_table-requires : goal.read_table-requires
read_table-requires c =
    let l =
    list-accepted c.args.b.now c.args.t.now (length c.args.list.now) 2
    (sym c.in_ok-list_refusal.ensures ∙ refl) in
    (l.0.formed, omega (arith, l.1, l.0.formed.pairs))

pub returns : goal.returns
returns c =
    let l =
    list-accepted c.args.b.now c.args.t.now (length c.args.list.now) 2
    (sym c.in_ok-list_refusal.ensures ∙ refl) in
    list-filled c.in_ok-list_refusal.ensures refl
    (table-placed c.args.list.now l.0 l.1 c.read_table.ensures)
