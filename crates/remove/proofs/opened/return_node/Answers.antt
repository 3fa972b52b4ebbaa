use mathlib.Core.Path.{sym, ◌∙◌}
use borrow.Author.Tests.{eq-eqb, ne_eqb}
use Rattle.remove.specs.inner.Stops.{is_member}
use Rattle.remove.specs.laws.Opened.{node-returned, node-left}
use Rattle.remove.proofs.opened.return_node.Goals as goal

pub returns-then-parent-n : goal.returns-then-parent-n
unfolding is_member
returns-then-parent-n c =
    node-returned c.args.n c.args.m
    (eq-eqb _ _ (sym c.parent.ensures.0 ∙ c.if-parent-n.true))
    c.return_member.ensures

pub returns-else-parent-n : goal.returns-else-parent-n
unfolding is_member
returns-else-parent-n c =
    node-left c.args.n c.args.m c.requires.0 (ne_eqb _ _ (λ e. c.if-parent-n.false (c.parent.ensures.0 ∙ e)))
