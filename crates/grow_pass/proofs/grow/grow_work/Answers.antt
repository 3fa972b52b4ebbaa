use Rattle.grow_pass.specs.laws.Grow.{ready-sides, ready-length, scanned-kept, scanned-sides, scanned-pushed, pass-worked}
use Rattle.grow_pass.proofs.grow.grow_work.Goals as goal

pub grow_scan-p-requires : goal.grow_scan-p-requires
grow_scan-p-requires c = let p = c.requires in
    let e = p.2 in
    (p.0.formed, p.0.node, e, p.0.scratch, ready-sides p.0 p.1, rw e at (ready-length p.0 p.1))

pub take_noted-requires : goal.take_noted-requires
take_noted-requires c = let p = c.requires in
    let x = c.grow_scan-p.ensures in
    (x.working, scanned-kept p.0 p.1 p.2 x, scanned-sides p.0 p.1 p.2 x, scanned-pushed p.0 p.1 p.2 x)

pub returns : goal.returns
returns c = let p = c.requires in
    pass-worked p.0 p.1 p.2 c.grow_scan-p.ensures c.take_noted.ensures
