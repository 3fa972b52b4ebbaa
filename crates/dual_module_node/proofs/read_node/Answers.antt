use Rattle.std.proofs.lemmas.Result.{err_from_is_err_and}
use Rattle.refusal.specs.Refusal.{number-some}
use Rattle.graph.specs.Layout.{state_of}
use Rattle.dual_module_node.specs.laws.ReadNode.{memory-refused}
use borrow.Author.Rules.{rules}
use Rattle.dual_module_node.proofs.read_node.Goals as goal

pub returns-in_err-refusal : goal.returns-in_err-refusal
returns-in_err-refusal c =
    let p = err_from_is_err_and c.from_residual.result c.from_residual.ensures.1 in
    rw (p.1, p.2)
    (memory-refused c.in_err-refusal.ensures (state_of c.args.b.now) c.args.n (number-some _))
