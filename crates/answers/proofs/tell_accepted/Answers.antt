use mathlib.Core.Path.{sym, ap}
use Rattle.answers.specs.Outcome.{accepted_as}
use Rattle.answers.specs.Numbers.{answer_numbers}
use Rattle.answers.specs.laws.Numbers.{tells_as}
use Rattle.answers.proofs.tell_accepted.Goals as goal

pub returns-in-Length : goal.returns-in-Length
unfolding answer_numbers
returns-in-Length c = tells_as c.tell_length.ensures (ap (λ a. answer_numbers (accepted_as a)) (sym c.in-Length.is))

pub returns-in-Done : goal.returns-in-Done
unfolding answer_numbers
returns-in-Done c = tells_as c.front.ensures (ap (λ a. answer_numbers (accepted_as a)) (sym c.in-Done.is))

pub returns-in-Node : goal.returns-in-Node
unfolding answer_numbers
returns-in-Node c = tells_as c.front-in-Node.ensures (ap (λ a. answer_numbers (accepted_as a)) (sym c.in-Node.is))

pub returns-in-Prepared : goal.returns-in-Prepared
unfolding answer_numbers
returns-in-Prepared c = tells_as c.front-in-Prepared.ensures (ap (λ a. answer_numbers (accepted_as a)) (sym c.in-Prepared.is))

pub returns-in-Vertex : goal.returns-in-Vertex
unfolding answer_numbers
returns-in-Vertex c = tells_as c.front-in-Vertex.ensures (ap (λ a. answer_numbers (accepted_as a)) (sym c.in-Vertex.is))
