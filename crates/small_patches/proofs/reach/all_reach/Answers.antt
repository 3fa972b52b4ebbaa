use Rattle.small_patches.specs.Reach.{marks_of, all_reach}
use Rattle.small_patches.proofs.reach.all_reach.Goals as goal

pub returns : goal.returns
unfolding all_reach marks_of
returns c = rw (c.all_marked.ensures, c.spread.ensures)
