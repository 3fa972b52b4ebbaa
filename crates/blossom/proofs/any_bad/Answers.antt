use Rattle.std.proofs.Common.{rules, tests, ap, ◌∙◌, ◌≡◌, refl, List, [], ◌∷◌, Bool}
use Rattle.std.specs.Prelude.{map, ◌||◌}
use Rattle.std.specs.List.{list_any}
use Rattle.std.proofs.lemmas.Iterator.{YieldsList-from_slice}
use Rattle.std.proofs.lemmas.Iterator.Adapters.{serves_from_places}
use Rattle.std.proofs.lemmas.Iterator.Search.{any_from_yields_List}
use Rattle.graph.specs.Basic.{any}
use Rattle.graph.specs.Word.{to_nat}
use Rattle.graph.specs.Layout.{state_of}
use Rattle.graph.specs.laws.Chains.{any_mapped}
use Rattle.calls.specs.Refuse.{bad_node}
use Rattle.blossom.proofs.any_bad.Goals as goal

pub any-requires-clause-callable : goal.any-requires-clause-callable
any-requires-clause-callable c =
    serves_from_places (YieldsList-from_slice c.args.circle.now (search rules)) (λ x q r. search rules)
    (λ x k h e. search rules)

pub returns : goal.returns
returns c =
    let xs = c.args.circle.now in
    let test = bad_node (state_of c.args.b.now) in
    any_from_yields_List (λ x. test (to_nat x)) _ _ _ c.any.ensures.ran
    (YieldsList-from_slice xs (search rules)) (λ x b q k. search (rules, tests))
    ∙ any_mapped test to_nat xs
