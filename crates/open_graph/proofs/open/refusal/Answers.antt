use mathlib.Core.Path.{◌≡◌}
use mathlib.Core.Bool.{true, false, ◌&&◌}
use lib.Dec.{eqb}
use Rattle.graph.specs.Open.{sizes_ok}
use Rattle.graph.specs.Opening.{edges_in}
use Rattle.open_graph.specs.laws.Open.{first-refusal}
use Rattle.open_graph.proofs.open.refusal.Goals as goal

pub returns-then-not-sizes_ok-edges_in : goal.returns-then-not-sizes_ok-edges_in
returns-then-not-sizes_ok-edges_in c =
    let a = c.args in
    let z : sizes_ok a.v a.e a.n a.l && eqb (edges_in a.edges.now) a.e ≡ false = cc in
    rw (first-refusal a.v a.e a.n a.l a.edges.now _ _, z)

pub returns : goal.returns
returns c =
    let a = c.args in
    let z : sizes_ok a.v a.e a.n a.l && eqb (edges_in a.edges.now) a.e ≡ true = cc in
    rw (first-refusal a.v a.e a.n a.l a.edges.now _ _, z) c.lengths_refusal.ensures
