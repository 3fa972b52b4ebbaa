use native.Mathlib.Omega.{arith}
use mathlib.Core.Path.{sym, ap}
use Rattle.answers.specs.Outcome.{accepted_as}
use Rattle.records.specs.Text.{ascii, spaced}
use Rattle.records.specs.Lines.{line, words_of}
use Rattle.records.specs.laws.Write.{told-as}
use borrow.Author.Rules.{rules}
use Rattle.records.proofs.told.accepted.Goals as goal

pub tell-requires : goal.tell-requires
unfolding spaced
tell-requires c = (search rules, omega arith)

pub returns-in-Length : goal.returns-in-Length
unfolding words_of
returns-in-Length c =
    told-as c.length.ensures (ap (λ a. line c.args.k (words_of (accepted_as a))) (sym c.in-Length.is))

pub returns-in-Done : goal.returns-in-Done
unfolding words_of ascii spaced
returns-in-Done c =
    told-as c.tell.ensures (ap (λ a. line c.args.k (words_of (accepted_as a))) (sym c.in-Done.is))

pub returns-in-Node : goal.returns-in-Node
unfolding words_of ascii spaced
returns-in-Node c =
    told-as c.tell_one.ensures (ap (λ a. line c.args.k (words_of (accepted_as a))) (sym c.in-Node.is))

pub returns-in-Prepared : goal.returns-in-Prepared
unfolding words_of ascii spaced
returns-in-Prepared c =
    told-as c.tell_one-in-Prepared.ensures (ap (λ a. line c.args.k (words_of (accepted_as a))) (sym c.in-Prepared.is))

pub returns-in-Vertex : goal.returns-in-Vertex
unfolding words_of ascii spaced
returns-in-Vertex c =
    told-as c.tell_one-in-Vertex.ensures (ap (λ a. line c.args.k (words_of (accepted_as a))) (sym c.in-Vertex.is))
