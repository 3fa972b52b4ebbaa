use Rattle.remove.specs.laws.Opened.{sides-in, set-none, set-lists, set-list, set_more, set_all}
use native.Mathlib.Omega.{arith}
use Rattle.remove.proofs.opened.set_holders.Goals as goal

pub loop-i-init : goal.loop-i-init
loop-i-init c = set-none c.args.n c.args.x c.requires.0

pub boundary_side-s-requires : goal.boundary_side-s-requires
boundary_side-s-requires c =
    let q = c.loop-i.invariant in (
      q.block.formed.laid,
      q.block.formed.listed,
      omega (arith, q.block.nodes, c.requires.2),
      sides-in q.block (set-lists q) c.requires.1 c.args.n (omega (arith, q.block.nodes, c.requires.2)),
      rw (set-list q) (omega arith),
    )

pub loop-i-preserved : goal.loop-i-preserved
loop-i-preserved c =
    set_more c.loop-i.invariant
    c.boundary_side-s.result (omega arith) c.boundary_side-s.ensures.0
    c.set_holder.ensures

pub returns : goal.returns
returns c = set_all c.loop-i.invariant (omega arith)
