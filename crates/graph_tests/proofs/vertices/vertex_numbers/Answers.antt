use Prim.Native.Nat.{◌/◌, ◌%◌}
use lib.ListN.{get_or-map}
use Rattle.graph.specs.Sound.{node_or_none}
use Rattle.graph.specs.Layout.{rows_of, row, state_of, state_from}
use Rattle.graph.specs.inner.Scans.{vertex_numbers}
use Rattle.graph.specs.Word.{word_at}
use Rattle.graph_tests.specs.laws.Range.{two-flags}
use Rattle.graph.specs.Rows.{flags_row}
use Rattle.graph_tests.proofs.vertices.vertex_numbers.Goals as goal

pub returns : goal.returns
unfolding vertex_numbers node_or_none state_of state_from
returns c = let v = c.args.v in
    let r = c.requires.2 in
    let l = row (rows_of c.args.b.now) flags_row in
    rw (
      get_or-map (λ x. x % 2) l v 0,
      get_or-map (λ x. x / 2) l v 0,
      ← c.node_count-c.ensures.0,
      ← r.flags.words v c.requires.1,
      ← r.holders.words v c.requires.1,
      ← r.grandsons.words v c.requires.1,
      c.at_most.ensures,
      c.at_most-2.ensures,
      c.at_most-3.ensures,
    )
    (rw (two-flags (word_at c.args.flags.now v)))
