use borrow.Author.Tests.{eq-eqb, ne_eqb}
use Rattle.pass.proofs.laws.Prepare.{one_up, one_down}
use borrow.Author.Rules.{rules}
use Rattle.prepare.proofs.prepare_dual_node_growth_single.Goals as goal

pub grow_pass-requires : goal.grow_pass-requires
grow_pass-requires c = (c.requires.0, c.requires.1.grows c.if-d-eq-UP.true)

pub shrink_pass-requires : goal.shrink_pass-requires
shrink_pass-requires c = (c.requires.0, c.requires.1.shrinks c.if-d-eq-UP.false)

pub returns-then-d-eq-UP : goal.returns-then-d-eq-UP
returns-then-d-eq-UP c =
    rw (one_up _ c.args.n c.args.d (eq-eqb _ _ c.if-d-eq-UP.true)) c.grow_pass.ensures

pub returns-else-d-eq-UP : goal.returns-else-d-eq-UP
returns-else-d-eq-UP c =
    rw (one_down _ c.args.n c.args.d (ne_eqb _ _ c.if-d-eq-UP.false)) c.shrink_pass.ensures
