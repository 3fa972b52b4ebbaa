use Rattle.dual_module_node.specs.Outcome.{node_as}
use Rattle.c_api_node.specs.Told.{read_node_numbers}
use Rattle.c_api.specs.laws.Words.{tells_as}
use mathlib.Core.Path.{sym, ap}
use Rattle.c_api_node.proofs.tell_read.Goals as goal

pub returns-in-Defect : goal.returns-in-Defect
unfolding read_node_numbers
returns-in-Defect c = tells_as c.front.ensures (ap (λ r. read_node_numbers (node_as r)) (sym c.in-Defect.is))

pub returns-in-Blossom : goal.returns-in-Blossom
unfolding read_node_numbers
returns-in-Blossom c = tells_as c.front-in-Blossom.ensures (ap (λ r. read_node_numbers (node_as r)) (sym c.in-Blossom.is))
