use Rattle.std.specs.Prelude.{◌≡◌, ◌<◌, false, ◌||◌, ltb, leb}
use mathlib.Core.Path.{sym, ◌∙◌}
use borrow.Author.Tests.{leb-false}
use native.Mathlib.Omega.{arith}
use Rattle.graph.specs.State.{node_count, vertex_count}
use Rattle.graph.specs.Layout.{state_of}
use Rattle.graph.specs.laws.Members.{or-neither-left}
use Rattle.calls.specs.Insert.{occupied}
use Rattle.calls.proofs.laws.Defect.{defect-refusal-0, defect-refusal-3, defect-refusal-5, defect-refusal-8, defect-refusal-9}
use Rattle.calls.proofs.defect.defect_refusal.Goals.{Else-vertex_count-v}
use Rattle.calls.proofs.defect.defect_refusal.Goals.{Else-looked}
use Rattle.calls.proofs.defect.defect_refusal.Goals.{Else-node_limit-node_count}
use Rattle.calls.proofs.defect.defect_refusal.Goals as goal

-- the numbers are in range

listed : (c : Else-vertex_count-v)
    → leb (vertex_count (state_of c.args.b.now)) c.args.v
    || ltb 2 c.args.x
    ≡ false
listed c = rw c.vertex_count.ensures.0 at c.if-vertex_count-v.false

-- the vertex is not occupied

vacant : (c : Else-looked) → occupied (state_of c.args.b.now) c.args.v ≡ false
vacant c = sym c.occupied-looked.ensures.0 ∙ c.if-looked.false

-- one more node is allowed

fits : (c : Else-node_limit-node_count)
    → node_count (state_of c.args.b.now)
    < (state_of c.args.b.now).node_limit
fits c = omega (arith, c.node_count.ensures.0, c.node_limit.ensures.0, c.if-node_limit-node_count.false)

pub returns-then-vertex_count-v : goal.returns-then-vertex_count-v
returns-then-vertex_count-v c =
    let a = c.args in
    defect-refusal-3 (state_of a.b.now) a.v a.x (rw c.vertex_count.ensures.0 at c.if-vertex_count-v.true)

pub occupied-looked-requires : goal.occupied-looked-requires
occupied-looked-requires c = (
  c.requires,
  leb-false _ _
      (or-neither-left (leb (vertex_count (state_of c.args.b.now)) c.args.v) _
      (listed c)),
)

pub returns-then-looked : goal.returns-then-looked
returns-then-looked c =
    let a = c.args in
    defect-refusal-5 (state_of a.b.now) a.v a.x (listed c.before.before)
    (sym c.occupied-looked.ensures.0 ∙ c.if-looked.true)

pub returns-then-node_limit-node_count : goal.returns-then-node_limit-node_count
returns-then-node_limit-node_count c =
    let a = c.args in
    defect-refusal-8 (state_of a.b.now) a.v a.x (listed c.before.before.before.before.before) (vacant c.before.before.before)
    (omega (arith, c.node_count.ensures.0, c.node_limit.ensures.0, c.if-node_limit-node_count.true))

pub returns-then-store_short_new : goal.returns-then-store_short_new
returns-then-store_short_new c =
    let a = c.args in
    defect-refusal-9 (state_of a.b.now) a.v a.x (listed c.before.before.before.before.before.before.before) (vacant c.before.before.before.before.before) (fits c.before.before)
    (sym c.store_short_new.ensures ∙ c.if-store_short_new.true)

pub returns : goal.returns
returns c =
    let a = c.args in
    defect-refusal-0 (state_of a.b.now) a.v a.x (listed c.before.before.before.before.before.before.before) (vacant c.before.before.before.before.before) (fits c.before.before)
    (sym c.store_short_new.ensures ∙ c.if-store_short_new.false)
