use Rattle.table_refuse.specs.Refuse.{sizes_right, graph_in_range}
use Rattle.graph.specs.laws.Size.{sizes-in}
use Rattle.open_graph.specs.laws.Open.{first-passed}
use Rattle.table_refuse.proofs.refuse.graph_in_range.Goals as goal

pub edges_ok-requires : goal.edges_ok-requires
unfolding sizes_right
edges_ok-requires c =
    let z = first-passed c.args.table.now.v c.args.table.now.e 1 0 c.args.table.now.edges.now c.requires in
    let s = sizes-in _ _ _ _ z.0 in
    (s.e-max, z.1)

pub returns : goal.returns
unfolding graph_in_range
returns c = cc
