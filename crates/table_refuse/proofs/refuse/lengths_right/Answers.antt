use lib.ListN.{length}
use Rattle.table_refuse.specs.Refuse.{lengths_right}
use Rattle.table_words.specs.laws.Words.{rows_fit}
use Rattle.table_refuse.proofs.refuse.lengths_right.Goals as goal

pub returns : goal.returns
unfolding lengths_right
returns c = let a = c.args in rw (rows_fit (length a.distances.now) (length a.table.now.defects.now) a.table.now.v c.requires.0)
