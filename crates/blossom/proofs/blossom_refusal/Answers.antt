use native.Mathlib.Omega.{arith}
use Prim.Native.Nat.{◌<◌}
use mathlib.Core.Path.{◌≡◌, sym, ◌∙◌}
use mathlib.Core.Bool.{false, ◌||◌}
use mathlib.Core.List.{map}
use lib.Dec.{ltb}
use Rattle.graph.specs.Basic.{any}
use Rattle.graph.specs.State.{node_count}
use Rattle.graph.specs.Word.{to_nat}
use Rattle.graph.specs.Layout.{state_of}
use Rattle.graph.specs.laws.Members.{or-neither-right}
use Rattle.calls.specs.Refuse.{bad_node, in_blossom}
use Rattle.calls.specs.Insert.{no_circle}
use Rattle.blossom.specs.laws.Circle.{nodes-small, circle-once, blossom-refusal-0, blossom-refusal-3, blossom-refusal-6, blossom-refusal-7, blossom-refusal-8, blossom-refusal-9}
use Rattle.blossom.proofs.blossom_refusal.Goals.{Else-x-any_bad}
use Rattle.blossom.proofs.blossom_refusal.Goals.{Else-any_inner}
use Rattle.blossom.proofs.blossom_refusal.Goals.{Else-no_circle}
use Rattle.blossom.proofs.blossom_refusal.Goals.{Else-node_limit-node_count}
use Rattle.blossom.proofs.blossom_refusal.Goals as goal

-- the numbers are in range

listed : (c : Else-x-any_bad)
    → ltb 2 c.args.x
    || any (bad_node (state_of c.args.b.now)) (map to_nat c.args.circle.now)
    ≡ false
listed c = rw c.any_bad.ensures at c.if-x-any_bad.false

-- the members are nodes

nodes : (c : Else-x-any_bad) → any (bad_node (state_of c.args.b.now)) (map to_nat c.args.circle.now) ≡ false
nodes c = or-neither-right (ltb 2 c.args.x) _ (listed c)

-- no member lies in a blossom

outer : (c : Else-any_inner)
    → any (in_blossom (state_of c.args.b.now))
    (map to_nat c.args.circle.now)
    ≡ false
outer c = sym c.any_inner.ensures ∙ c.if-any_inner.false

-- it is a circle

round : (c : Else-no_circle) → no_circle (map to_nat c.args.circle.now) ≡ false
round c = sym c.no_circle.ensures ∙ c.if-no_circle.false

-- one more node is allowed

fits : (c : Else-node_limit-node_count)
    → node_count (state_of c.args.b.now)
    < (state_of c.args.b.now).node_limit
fits c = omega (arith, c.node_count.ensures.0, c.node_limit.ensures.0, c.if-node_limit-node_count.false)

pub returns-then-x-any_bad : goal.returns-then-x-any_bad
returns-then-x-any_bad c =
    let a = c.args in
    blossom-refusal-3 (state_of a.b.now) a.x (map to_nat a.circle.now)
    (rw c.any_bad.ensures at c.if-x-any_bad.true)

pub any_inner-requires : goal.any_inner-requires
any_inner-requires c = (c.requires, nodes c)

pub returns-then-any_inner : goal.returns-then-any_inner
returns-then-any_inner c =
    let a = c.args in
    blossom-refusal-6 (state_of a.b.now) a.x (map to_nat a.circle.now) (listed c.before.before)
    (sym c.any_inner.ensures ∙ c.if-any_inner.true)

pub no_circle-requires : goal.no_circle-requires
no_circle-requires c =
    nodes-small (state_of c.args.b.now) (map to_nat c.args.circle.now) (nodes c.before.before)
    c.requires.nodes-max

pub returns-then-no_circle : goal.returns-then-no_circle
returns-then-no_circle c =
    let a = c.args in
    blossom-refusal-7 (state_of a.b.now) a.x (map to_nat a.circle.now) (listed c.before.before.before.before) (outer c.before.before)
    (sym c.no_circle.ensures ∙ c.if-no_circle.true)

pub returns-then-node_limit-node_count : goal.returns-then-node_limit-node_count
returns-then-node_limit-node_count c =
    let a = c.args in
    blossom-refusal-8 (state_of a.b.now) a.x (map to_nat a.circle.now) (listed c.before.before.before.before.before.before.before) (outer c.before.before.before.before.before)
    (round c.before.before.before) (omega (arith, c.node_count.ensures.0, c.node_limit.ensures.0, c.if-node_limit-node_count.true))

pub store_short_circle-requires : goal.store_short_circle-requires
store_short_circle-requires c =
    (c.requires, nodes c.before.before.before.before.before.before.before, circle-once (map to_nat c.args.circle.now) (round c.before.before.before))

pub returns-then-store_short_circle : goal.returns-then-store_short_circle
returns-then-store_short_circle c =
    let a = c.args in
    blossom-refusal-9 (state_of a.b.now) a.x (map to_nat a.circle.now) (listed c.before.before.before.before.before.before.before.before.before) (outer c.before.before.before.before.before.before.before)
    (round c.before.before.before.before.before) (fits c.before.before) (sym c.store_short_circle.ensures ∙ c.if-store_short_circle.true)

pub returns : goal.returns
returns c =
    let a = c.args in
    blossom-refusal-0 (state_of a.b.now) a.x (map to_nat a.circle.now) (listed c.before.before.before.before.before.before.before.before.before) (outer c.before.before.before.before.before.before.before)
    (round c.before.before.before.before.before) (fits c.before.before) (sym c.store_short_circle.ensures ∙ c.if-store_short_circle.false)
