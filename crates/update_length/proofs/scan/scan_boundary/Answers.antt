use Rattle.graph.specs.Layout.{state_of}
use Rattle.graph.specs.inner.Form.{sides_ok}
use Rattle.update_length.specs.laws.Scanning.{scan-answer}
use Rattle.update_length.proofs.scan.scan_boundary.Goals as goal

pub scan_sides-r-requires : goal.scan_sides-r-requires
unfolding sides_ok
scan_sides-r-requires c = let p = c.requires in (p.0, p.1, p.2, rw c.boundary-boundary.ensures p.3, p.4)

pub returns : goal.returns
returns c =
    let a = c.args in
    scan-answer (state_of a.b.now) a.n a.d a.start c.boundary-boundary.result.now
    c.boundary-boundary.ensures c.scan_sides-r.ensures c.scan_answer.ensures
