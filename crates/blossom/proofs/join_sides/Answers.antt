use native.Mathlib.Omega.{arith}
use Prim.Native.Nat.{ℕ, ◌<◌}
use mathlib.Core.Path.{◌≡◌, sym, ap, ◌∙◌}
use mathlib.Core.List.{List}
use lib.ListN.{length, get_or}
use Rattle.graph.specs.State.{side_count, boundary_of}
use Rattle.graph.specs.Layout.{state_of}
use Rattle.blossom.specs.laws.Blossom.{joined-space, sides-none, sides-list, sides-ok, sides-more, sides-skip, sides_all}
use Rattle.blossom.proofs.join_sides.Goals.{After-boundary_side-s}
use Rattle.blossom.proofs.join_sides.Goals.{Then-holder-m}
use Rattle.blossom.proofs.join_sides.Goals.{then-holder-m, else-holder-m}
use Rattle.blossom.proofs.join_sides.Goals as goal

-- side i of the boundary as it was at first

within : (c : After-boundary_side-s)
    → c.loop-i.i
    < length
    (boundary_of (state_of c.args.b.now)
    c.args.m)
within c = omega (arith, c.loop-i-test.true, c.boundary_len-l.ensures.0)

entry : (c : After-boundary_side-s)
    → c.boundary_side-s.result
    ≡ get_or
    (boundary_of (state_of c.args.b.now)
    c.args.m)
    c.loop-i.i 0
entry c = let d = c.loop-i in c.boundary_side-s.ensures.0 ∙ ap (λ (l : List ℕ). get_or l d.i 0) (sides-list d.invariant)

inside : (c : After-boundary_side-s)
    → c.boundary_side-s.result < side_count (state_of c.args.b.now)
inside c = omega (arith, c.boundary_side-s.ensures.1, c.loop-i.invariant.joined.block.sides)

-- the scratch has room for a side that member m holds

space : (c : Then-holder-m)
    → c.loop-i.q
    < side_count (state_of c.args.b.now)
space c = joined-space c.loop-i.invariant.joined c.args.m c.boundary_side-s.result (inside c.before.before)
    (sym c.holder.ensures.0 ∙ c.if-holder-m.true) c.requires.4

pub boundary_len-l-requires : goal.boundary_len-l-requires
boundary_len-l-requires c = (c.requires.0.block.formed.laid, c.requires.0.block.formed.listed, c.requires.1)

pub loop-i-init : goal.loop-i-init
loop-i-init c = sides-none c.args.m c.args.n c.args.k c.requires.0

pub boundary_side-s-requires : goal.boundary_side-s-requires
boundary_side-s-requires c = let q = c.loop-i.invariant in
    let f = q.joined.block.formed in (
      f.laid,
      f.listed,
      rw q.joined.block.nodes c.requires.1,
      sides-ok q c.requires.2,
      rw (sides-list q) (omega (arith, c.loop-i-test.true, c.boundary_len-l.ensures.0)),
    )

pub holder-requires : goal.holder-requires
holder-requires c = (c.loop-i.invariant.joined.block.formed, c.boundary_side-s.ensures.1)

pub set_holder-requires : goal.set_holder-requires
set_holder-requires c = (
  c.loop-i.invariant.joined.block.formed,
  c.boundary_side-s.ensures.1,
  omega (arith, c.requires.3),
)

pub put-requires : goal.put-requires
put-requires c = let q = c.loop-i.invariant.joined in (
  omega (arith, space c.before.before.before.before, q.holding.size),
  omega
      (arith, c.boundary_side-s.ensures.1, q.block.formed.sides-max),
)

pub overflow_add-q : goal.overflow_add-q
overflow_add-q c =
    let h = space c.before.before.before.before.before.before in
    record {
      fits = omega (
        arith,
        h,
        c.requires.0.block.formed.sides-max,
      );
    }

pub loop-i-preserved : goal.loop-i-preserved
loop-i-preserved c =
    let q = c.loop-i.invariant in
    elim c.if-holder-m.branch [
      | then-holder-m w ↦
          rw (w.b-is, w.t-is, w.q-is, w.put.ensures)
          (sides-more q c.boundary_side-s.result (within c.before.before) (entry c.before.before)
          (inside c.before.before)
          (sym c.holder.ensures.0 ∙ w.if-holder-m.true) c.requires.4 w.set_holder.ensures)
      | else-holder-m w ↦
          rw (w.b-is, w.t-is, w.q-is)
          (sides-skip q c.boundary_side-s.result (within c.before.before) (entry c.before.before)
          (λ e. w.if-holder-m.false (c.holder.ensures.0 ∙ e)))
    ]

pub shape_of-b : goal.shape_of-b
shape_of-b c = c.loop-i.invariant.joined.block.len

pub shape_of-t : goal.shape_of-t
shape_of-t c = c.loop-i.invariant.joined.holding.size ∙ sym c.requires.0.holding.size

pub returns : goal.returns
returns c = sides_all c.loop-i.invariant (omega (arith, c.loop-i-test.false, c.boundary_len-l.ensures.0))
