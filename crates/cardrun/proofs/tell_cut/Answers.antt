use Rattle.record_step.specs.laws.Few.{ends-tells}
use Rattle.cardrun.proofs.tell_cut.Goals as goal

pub returns : goal.returns
returns c =
    let e = c.cut.ensures in
    (ends-tells _ 3 c.requires.0 e.0, e.0.room, e.1, e.2)
