use borrow.Author.Rules.{rules}
use native.Mathlib.Omega.{arith}
use Prim.Native.Nat.{◌<◌}
use mathlib.Core.Path.{sym, ◌∙◌}
use mathlib.Core.List.{map}
use lib.ListN.{length, length-map}
use Rattle.graph.specs.Word.{to_nat}
use Rattle.calls.proofs.laws.Front.{front-none}
use Rattle.graph.specs.laws.Form.{laid-nodes}
use Rattle.graph.specs.laws.Number.{word-entry}
use Rattle.blossom.specs.laws.Blossom.{joined-here, members-none, members-node, members-sides, members-apart, members-more, members-all}
use Rattle.blossom.specs.laws.Circle.{item}
use Rattle.blossom.proofs.join_members.Goals as goal

pub loop-word-init : goal.loop-word-init
loop-word-init c = members-none c.args.n c.requires.0 c.requires.1 c.requires.2

pub join_member-k-requires : goal.join_member-k-requires
join_member-k-requires c = let d = c.loop-word in
    let l = c.args.circle.now in
    let h : d.word-index < length (map to_nat l) = rw (length-map l to_nat) (omega arith) in
    let e = item c.args.circle.now c.loop-word.word-index c.to_nat-m.ensures.0 (search rules)
    ∙ word-entry l d.word-index in
    let m = c.to_nat-m.result in (
      joined-here d.invariant.joined,
      members-node d.invariant m h e,
      members-sides d.invariant m h e,
      omega (arith, c.requires.3, c.requires.2.count, laid-nodes c.args.b.now c.requires.0.laid),
      members-apart d.invariant m h e c.requires.3,
    )

pub loop-word-preserved : goal.loop-word-preserved
loop-word-preserved c = let d = c.loop-word in
    let l = c.args.circle.now in
    members-more d.invariant c.to_nat-m.result (rw (length-map l to_nat) (omega arith))
    (item c.args.circle.now c.loop-word.word-index c.to_nat-m.ensures.0 (search rules) ∙ word-entry l d.word-index)
    c.join_member-k.ensures

pub shape_of-b : goal.shape_of-b
shape_of-b c = c.loop-word.invariant.joined.block.len

pub shape_of-t : goal.shape_of-t
shape_of-t c =
    c.loop-word.invariant.joined.holding.size
    ∙ sym (front-none c.requires.0 c.requires.1).size

pub returns : goal.returns
returns c = let q = c.loop-word.invariant in
    (members-all q (rw (length-map c.args.circle.now to_nat) (omega arith)), q.joinable)
