use Rattle.table_refuse.specs.Refuse.{sizes_right}
use Rattle.graph.specs.laws.Size.{sizes-in}
use Rattle.open_graph.specs.laws.Open.{first-passed}
use Rattle.table_check.specs.Streamed.{begun}
use Rattle.table_check.proofs.stream.begin.Goals as goal

pub positive-requires : goal.positive-requires
unfolding sizes_right
positive-requires c =
    let z = first-passed c.args.table.now.v c.args.table.now.e 1 0 c.args.table.now.edges.now c.requires in
    let w = sizes-in _ _ _ _ z.0 in
    w.e-max

pub in_reach-requires : goal.in_reach-requires
unfolding sizes_right
in_reach-requires c =
    let z = first-passed c.args.table.now.v c.args.table.now.e 1 0 c.args.table.now.edges.now c.requires in
    let w = sizes-in _ _ _ _ z.0 in
    (w.v-max, w.e-max)

pub returns : goal.returns
unfolding begun
returns c = (cc, cc)
