use Rattle.shrink_pass.specs.laws.Release.{does-release}
use Rattle.shrink_pass.proofs.release.release_vertex.Goals as goal

pub returns : goal.returns
returns c = does-release _ _ c.part_vertex.ensures
