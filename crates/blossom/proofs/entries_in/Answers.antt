use borrow.Author.Rules.{rules}
use native.Mathlib.Omega.{arith}
use Prim.Native.Nat.{◌<◌}
use mathlib.Core.Path.{◌∙◌}
use mathlib.Core.List.{map}
use lib.ListN.{length-map}
use Rattle.graph.specs.State.{node_count}
use Rattle.graph.specs.Word.{to_nat}
use Rattle.graph.specs.Layout.{state_of}
use Rattle.graph.specs.laws.Number.{word-entry}
use Rattle.blossom.specs.laws.Circle.{item, all-nodes, circle-member, entries-more, entries-end, entries-small, formed-entries}
use Rattle.blossom.proofs.entries_in.Goals.{After-to_nat-m}
use Rattle.blossom.proofs.entries_in.Goals as goal

-- the member at hand is a node

node : (c : After-to_nat-m) → c.to_nat-m.result < node_count (state_of c.args.b.now)
node c =
    rw (item c.args.circle.now c.loop-word.word-index c.to_nat-m.ensures.0 (search rules))
    (all-nodes (state_of c.args.b.now) (map to_nat c.args.circle.now) c.requires.1 _
    (circle-member c.args.circle.now c.loop-word.word-index (omega arith)))

pub loop-word-init : goal.loop-word-init
loop-word-init c = omega arith

pub entries_of-sum-requires : goal.entries_of-sum-requires
entries_of-sum-requires c = (c.requires.0, node c)

pub overflow_add-sum : goal.overflow_add-sum
overflow_add-sum c =
    let d = c.loop-word in
    let h = entries-small (state_of c.args.b.now) (map to_nat c.args.circle.now) d.word-index d.sum d.invariant in
    record { fits = omega (arith, h, formed-entries c.args.b.now c.requires.0, c.entries_of-sum.ensures.1) }

pub loop-word-preserved : goal.loop-word-preserved
loop-word-preserved c =
    let d = c.loop-word in (
    rw c.entries_of-sum.ensures.0
    (entries-more (state_of c.args.b.now) (map to_nat c.args.circle.now) d.word-index d.sum d.invariant
    c.to_nat-m.result (rw (length-map c.args.circle.now to_nat) (omega arith))
    (item c.args.circle.now c.loop-word.word-index c.to_nat-m.ensures.0 (search rules)
    ∙ word-entry c.args.circle.now d.word-index) (node c.before) c.requires.2)
    )

pub returns : goal.returns
returns c =
    entries-end (state_of c.args.b.now) (map to_nat c.args.circle.now) c.loop-word.word-index c.loop-word.sum
    c.loop-word.invariant (rw (length-map c.args.circle.now to_nat) (omega arith))
