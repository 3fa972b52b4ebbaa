use native.Mathlib.Omega.{arith}
use Rattle.graph.specs.laws.Row.{becomes-then}
use Rattle.shrink_pass.specs.laws.Shrink.{start-busy, shrinkable-kept, none-noted, shrink-worked}
use Rattle.shrink_pass.proofs.shrink.shrink_work.Goals as goal

pub drop_tops-q-requires : goal.drop_tops-q-requires
drop_tops-q-requires c = let s = c.requires in (start-busy _ _ _ _ s.0 s.2, s.0.node, s.1, s.3)

pub shrink_scan-r-requires : goal.shrink_scan-r-requires
shrink_scan-r-requires c =
    let d = c.drop_tops-q.ensures in (
      d.working,
      omega arith,
      shrinkable-kept _ d.keeps c.requires.1,
      none-noted _ c.requires.0
          c.requires.2 d,
    )

pub returns : goal.returns
returns c =
    let e = c.release_noted.ensures in
    let r = c.requires in (
      becomes-then c.drop_tops-q.ensures.block
          (becomes-then c.shrink_scan-r.ensures.block e.block),
      shrink-worked _ r.0 r.2 c.drop_tops-q.ensures
          c.shrink_scan-r.ensures e,
    )
