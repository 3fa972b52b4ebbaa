use Rattle.dual_module_node.specs.Outcome.{node_by}
use Rattle.c_api_node.specs.Told.{read_node_numbers}
use Rattle.c_api.specs.laws.Words.{tells_as}
use mathlib.Core.Path.{sym, ap}
use Rattle.c_api_node.proofs.tell_node.Goals as goal

pub returns-in-Ok : goal.returns-in-Ok
returns-in-Ok g c =
    tells_as c.tell_read.ensures
    (ap (λ a. read_node_numbers (node_by g.R.Numbered.number_of a)) (sym c.in-Ok.is))

pub returns-in-Err : goal.returns-in-Err
unfolding read_node_numbers
returns-in-Err g c =
    tells_as c.tell_refusal.ensures
    (ap (λ a. read_node_numbers (node_by g.R.Numbered.number_of a)) (sym c.in-Err.is))
