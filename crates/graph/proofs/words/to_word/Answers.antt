use mir.Syntax.{w64}
use mir.Facts.{to_z_pos}
use Rattle.graph.proofs.words.to_word.Goals as goal

pub returns : goal.returns
returns c = to_z_pos w64 c.requires
