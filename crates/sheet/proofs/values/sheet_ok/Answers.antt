use Rattle.sheet.specs.Sheet.{sheet_ok}
use Rattle.sheet.proofs.values.sheet_ok.Goals as goal

pub returns : goal.returns
unfolding sheet_ok
returns c = cc
