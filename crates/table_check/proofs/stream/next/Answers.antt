use Rattle.table_check.specs.Streamed.{advanced}
use Rattle.table_check.proofs.stream.next.Goals as goal

pub returns : goal.returns
unfolding advanced
returns c =
    rw (
      c.row_right.ensures,
      c.distances_in_range.ensures,
      c.cover.ensures,
      c.number.ensures.0,
    )
