use mathlib.Core.Path.{refl}
use borrow.Author.Tests.{ne_eqb}
use Rattle.calls.specs.Contacts.{joins_nodes}
use Rattle.contacts.proofs.joins.Goals as goal

pub returns-then-p-eq0 : goal.returns-then-p-eq0
unfolding joins_nodes
returns-then-p-eq0 c = rw (c.if-p-eq0.true, c.free_virtual-f.ensures) refl

pub returns-then-q-eq0 : goal.returns-then-q-eq0
unfolding joins_nodes
returns-then-q-eq0 c = rw (ne_eqb c.args.p 0 c.if-p-eq0.false, c.if-q-eq0.true, c.free_virtual.ensures) refl

pub returns : goal.returns
unfolding joins_nodes
returns c = rw (ne_eqb c.args.p 0 c.if-p-eq0.false, ne_eqb c.args.q 0 c.if-q-eq0.false) refl
