use Rattle.refusal.specs.Refusal.{number-some}
use native.Mathlib.Omega.{arith}
use Prim.Native.Nat.{◌+◌, ◌<◌}
use mathlib.Core.Path.{◌≡◌, refl, ap, ◌∙◌}
use mathlib.Core.List.{map}
use lib.ListN.{length, get_or, length-map}
use Rattle.graph.specs.State.{vertex_count}
use Rattle.graph.specs.Word.{to_nat, word_at}
use Rattle.graph.specs.Layout.{state_of}
use Rattle.blossom.specs.inner.Circle.{Joinable}
use Rattle.graph.specs.laws.Number.{word-entry}
use Rattle.blossom.specs.laws.Blossom.{joined-read, blossom-refused, blossom-joinable, blossom-state-small, blossom-some, blossom-first, blossom-room, blossom-joins, blossom-done, blossom-wiped}
use Rattle.calls.proofs.laws.Keeps.{asked-true, asked-as}
use Rattle.blossom.specs.laws.Keeps.{blossom-refused-passes, blossom-accepted-asks}
use Rattle.blossom.proofs.tested.insert_blossom.Goals.{In_default}
use Rattle.blossom.proofs.tested.insert_blossom.Goals.{After-t-2-1}
use Rattle.blossom.proofs.tested.insert_blossom.Goals as goal

-- the circle may be joined

joinable : (c : In_default) → Joinable (state_of c.args.b.now) (map to_nat c.args.circle.now)
joinable c =
    blossom-joinable c.requires c.args.x _ (map to_nat c.args.circle.now) c.in_default.ensures
    refl

-- it has a first member, which is a node

some : (c : In_default) → 0 < length c.args.circle.now
some c =
    rw (length-map c.args.circle.now to_nat)
    at
    (blossom-some c.requires c.args.x _ (map to_nat c.args.circle.now) c.in_default.ensures
    refl)

first : (c : In_default) → word_at c.args.circle.now 0 < 1024
first c =
    rw (word-entry c.args.circle.now 0)
    (blossom-first c.requires c.args.x _ (map to_nat c.args.circle.now) c.in_default.ensures
    refl)

-- the scratch is all zero again

zero : (c : After-t-2-1)
    → c.wipe.new.t
    ≡ c.args.t.now
zero c = blossom-wiped c.requires c.args.x _ (map to_nat c.args.circle.now) c.in_default.ensures
    refl _ c.join_circle-joined.result.count c.node_count-n.ensures.0
    c.join_circle-joined.ensures.0 c.wipe.ensures

pub returns-in-Err : goal.returns-in-Err
returns-in-Err c = (
  blossom-refused c.requires c.args.x _ (map to_nat c.args.circle.now) c.in-Err.ensures
      (number-some _),
  refl,
  asked-true c.args.ask
      (blossom-refused-passes (state_of c.args.b.now) c.args.x (map to_nat c.args.circle.now) _
      c.in-Err.ensures (number-some _)),
)

pub join_circle-joined-requires : goal.join_circle-joined-requires
join_circle-joined-requires c = (
  c.requires.formed,
  c.requires.scratch,
  joinable c.before.before.before,
  c.node_count-n.ensures.0,
)

pub vertex_count-requires : goal.vertex_count-requires
vertex_count-requires c = c.join_circle-joined.ensures.0.block.formed.laid

pub word-requires : goal.word-requires
word-requires c = some c.before.before.before.before.before.before.before

pub push_node-requires : goal.push_node-requires
push_node-requires c = let r = c.join_circle-joined.ensures in
    let l = map to_nat c.args.circle.now in
    let e = c.in_default.ensures in (
      r.0.block.formed,
      r.1.count,
      omega (arith, c.word.ensures.0, first c.before.before.before.before.before.before.before.before.before),
      blossom-state-small c.requires c.args.x _ l e refl,
      joined-read r.0,
      blossom-room c.requires c.args.x _ l e refl _ c.join_circle-joined.result.count
          c.node_count-n.ensures.0 r.0 r.1,
    )

pub join-requires : goal.join-requires
join-requires c = let r = c.join_circle-joined.ensures in
    let l = map to_nat c.args.circle.now in
    blossom-joins c.requires c.args.x _ l c.in_default.ensures refl _
    c.join_circle-joined.result.count c.node_count-n.ensures.0 r.0 _
    c.push_node.ensures

pub wipe-requires : goal.wipe-requires
wipe-requires c =
    omega (
      arith,
      joined-read
          c.join_circle-joined.ensures.0,
    )

pub shape_of-b : goal.shape_of-b
shape_of-b c =
    c.join.ensures.len
    ∙ c.push_node.ensures.len
    ∙ c.join_circle-joined.ensures.0.block.len

pub shape_of-t : goal.shape_of-t
shape_of-t c = ap length (zero c)

pub returns : goal.returns
returns c = let l = map to_nat c.args.circle.now in
    let k : c.vertex_count.result + c.word.result
    ≡ vertex_count (state_of c.join_circle-joined.new.b) + get_or l 0 0 =
    rw (c.vertex_count.ensures.0, c.word.ensures.0 ∙ word-entry c.args.circle.now 0) in (
      blossom-done c.requires c.args.x _ l c.in_default.ensures refl _
          c.join_circle-joined.result.count c.node_count-n.ensures.0 c.join_circle-joined.ensures.0 _ k
          c.push_node.ensures
          c.join.ensures,
      zero c,
      asked-as c.args.ask c.join_circle-joined.ensures.2
          (blossom-accepted-asks (state_of c.args.b.now) c.args.x l _ c.in_default.ensures refl),
    )
