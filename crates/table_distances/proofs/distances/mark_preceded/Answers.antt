use Rattle.table_words.specs.laws.Loops.{marks-none, marks-more}
use Rattle.table_distances.proofs.distances.mark_preceded.Goals as goal

pub loop-s-init : goal.loop-s-init
loop-s-init c = marks-none _ _ _

pub loop-s-preserved : goal.loop-s-preserved
loop-s-preserved c =
    marks-more _ _ _ c.loop-s.s c.loop-s.invariant c.precedes_at-t.ensures c.near.ensures.0 c.mark_if.ensures
