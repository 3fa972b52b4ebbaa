use Rattle.records.specs.Opening.{large_sizes}
use Rattle.records.proofs.opening.large_sizes.Goals as goal

pub returns : goal.returns
unfolding large_sizes
returns c = cc
