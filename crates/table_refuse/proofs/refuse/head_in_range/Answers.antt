use Rattle.table_refuse.specs.Refuse.{sizes_right, head_in_range}
use Rattle.graph.specs.laws.Size.{sizes-in}
use Rattle.open_graph.specs.laws.Open.{first-passed}
use Rattle.table_refuse.proofs.refuse.head_in_range.Goals as goal

pub defects_in_range-requires : goal.defects_in_range-requires
unfolding sizes_right
defects_in_range-requires c =
    let z = first-passed c.args.table.now.v c.args.table.now.e 1 0 c.args.table.now.edges.now c.requires in
    (sizes-in _ _ _ _ z.0).v-max

pub returns : goal.returns
unfolding head_in_range
returns c = cc
