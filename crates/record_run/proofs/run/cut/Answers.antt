use Rattle.record_run.proofs.run.cut.Goals as goal

pub returns : goal.returns
returns c = c.stop.ensures
