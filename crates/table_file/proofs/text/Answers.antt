use Rattle.table_file.specs.File.{verdict_text}
use Rattle.table_file.proofs.text.Goals as goal

pub returns-in-Ok-true : goal.returns-in-Ok-true
unfolding verdict_text
returns-in-Ok-true c = let r = c.in-Ok-true in rw (r.is, r.field-0-test)

pub returns-in-Ok-false : goal.returns-in-Ok-false
unfolding verdict_text
returns-in-Ok-false c = let r = c.in-Ok-false in rw (r.is, r.field-0-test)

pub returns-in-Err : goal.returns-in-Err
returns-in-Err c = rw c.in-Err.is c.refused_text.ensures
