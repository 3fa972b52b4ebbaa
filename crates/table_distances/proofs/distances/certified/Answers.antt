use Rattle.table_distances.specs.Certificate.{certified, preceded_marks}
use Rattle.table_distances.proofs.distances.certified.Goals as goal

pub returns : goal.returns
unfolding certified preceded_marks
returns c = cc
