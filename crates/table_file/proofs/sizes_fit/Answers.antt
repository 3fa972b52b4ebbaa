use mathlib.Core.Path.{refl}
use Rattle.table_file.specs.File.{file_sizes}
use Rattle.table_file.proofs.sizes_fit.Goals as goal

pub returns : goal.returns
unfolding file_sizes
returns c = refl
