use Rattle.std.specs.Prelude.{◌≡◌, ◌<◌, false, ◌||◌}
use mathlib.Core.Path.{sym, ◌∙◌}
use Rattle.graph.specs.State.{node_count}
use Rattle.graph.specs.Layout.{state_of}
use Rattle.graph.specs.laws.Members.{or-neither-left}
use Rattle.calls.specs.Refuse.{bad_node, in_blossom}
use Rattle.calls.proofs.laws.Refuse.{good-inside, refuses-number, refuses-inner, refuses-store, refuses-not}
use Rattle.calls.proofs.refuse.node_refusal.Goals.{Else-bad_node-wrong}
use Rattle.calls.proofs.refuse.node_refusal.Goals.{Else-in_blossom}
use Rattle.calls.proofs.refuse.node_refusal.Goals as goal

-- the numbers are in range

listed : (c : Else-bad_node-wrong) → bad_node (state_of c.args.b.now) c.args.n || c.args.wrong ≡ false
listed c = rw c.bad_node.ensures at c.if-bad_node-wrong.false

inside : (c : Else-bad_node-wrong) → c.args.n < node_count (state_of c.args.b.now)
inside c =
    let d = state_of c.args.b.now in
    good-inside d c.args.n (or-neither-left (bad_node d c.args.n) _ (listed c))

-- the node is outermost

outer : (c : Else-in_blossom) → in_blossom (state_of c.args.b.now) c.args.n ≡ false
outer c = sym c.in_blossom.ensures ∙ c.if-in_blossom.false

pub returns-then-bad_node-wrong : goal.returns-then-bad_node-wrong
returns-then-bad_node-wrong c = let a = c.args in refuses-number (state_of a.b.now) a.n a.wrong _ (rw c.bad_node.ensures at c.if-bad_node-wrong.true)

pub in_blossom-requires : goal.in_blossom-requires
in_blossom-requires c = (c.requires, inside c)

pub returns-then-in_blossom : goal.returns-then-in_blossom
returns-then-in_blossom c =
    let a = c.args in
    refuses-inner (state_of a.b.now) a.n a.wrong _ (listed c.before.before)
    (sym c.in_blossom.ensures ∙ c.if-in_blossom.true)

pub store_short-requires : goal.store_short-requires
store_short-requires c = (c.requires, inside c.before.before.before)

pub returns-then-store_short : goal.returns-then-store_short
returns-then-store_short c =
    let a = c.args in
    refuses-store (state_of a.b.now) a.n a.wrong _ (listed c.before.before.before.before.before)
    (outer c.before.before.before)
    (rw c.if-prepares.true (sym c.store_short.ensures ∙ c.if-store_short.true))

pub returns-else-store_short : goal.returns-else-store_short
returns-else-store_short c =
    let a = c.args in
    refuses-not (state_of a.b.now) a.n a.wrong _ (listed c.before.before.before.before.before)
    (outer c.before.before.before)
    (rw c.if-prepares.true (sym c.store_short.ensures ∙ c.if-store_short.false))

pub returns-else-prepares : goal.returns-else-prepares
returns-else-prepares c =
    let a = c.args in
    refuses-not (state_of a.b.now) a.n a.wrong _ (listed c.before.before.before) (outer c.before)
    (rw c.if-prepares.false)
