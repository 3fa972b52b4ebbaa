use Rattle.graph.specs.laws.SidesAt.{rising-of}
use Rattle.graph.proofs.sides.sides_len.Goals as goal

pub stretch_len-requires : goal.stretch_len-requires
stretch_len-requires c = (c.requires.0.laid, rising-of c.args.b.now c.requires.0.wired, c.requires.1)
