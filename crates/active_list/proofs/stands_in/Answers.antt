use lib.ListN.{get_or}
use Rattle.graph.specs.laws.Members.{any_here, any-on, any-end}
use Rattle.graph.specs.Layout.{state_of}
use Rattle.graph.specs.Basic.{member}
use borrow.Author.Tests.{eq-eqb, ne_eqb}
use lib.Dec.{eqb}
use native.Mathlib.Omega.{arith}
use Rattle.active_list.proofs.stands_in.Goals as goal

pub returns-then-active_node-n : goal.returns-then-active_node-n
unfolding member
returns-then-active_node-n c =
    any_here (eqb c.args.n)
    (state_of c.args.b.now).active c.loop-i.i
    c.loop-i.invariant (omega arith)
    (eq-eqb c.args.n
    (get_or (state_of c.args.b.now).active
    c.loop-i.i 0)
    (omega arith))

pub loop-i-preserved : goal.loop-i-preserved
loop-i-preserved c =
    any-on (eqb c.args.n)
    (state_of c.args.b.now).active c.loop-i.i
    c.loop-i.invariant (omega arith)
    (ne_eqb c.args.n
    (get_or (state_of c.args.b.now).active
    c.loop-i.i 0)
    (λ e. c.if-active_node-n.false (omega (arith, e))))

pub returns : goal.returns
unfolding member
returns c =
    any-end (eqb c.args.n) (state_of c.args.b.now).active
    c.loop-i.i c.loop-i.invariant (omega arith)
