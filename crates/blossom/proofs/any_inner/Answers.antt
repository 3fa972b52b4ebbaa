use Rattle.std.proofs.Common.{rules, tests, ap, ◌∙◌, ◌≡◌, refl, List, [], ◌∷◌, Bool, ◌<◌}
use Rattle.std.specs.Prelude.{map, ◌||◌, pos}
use Rattle.std.specs.List.{list_any}
use Rattle.std.proofs.lemmas.Iterator.{YieldsList-from_slice}
use Rattle.std.proofs.lemmas.Iterator.Adapters.{serves_from_places}
use Rattle.std.proofs.lemmas.Iterator.Search.{any_from_yields_List}
use Rattle.std.proofs.lemmas.List.{get_or_default}
use Rattle.graph.specs.Basic.{any}
use Rattle.graph.specs.State.{node_count}
use Rattle.graph.specs.Word.{to_nat, word_at}
use Rattle.graph.specs.Layout.{state_of}
use Rattle.graph.specs.laws.Chains.{any_mapped}
use Rattle.calls.specs.Refuse.{in_blossom}
use Rattle.blossom.specs.laws.Circle.{all-nodes, circle-member}
use Rattle.blossom.proofs.any_inner.Goals as goal

pub any-requires-clause-callable : goal.any-requires-clause-callable
any-requires-clause-callable c =
    let xs = c.args.circle.now in
    let d = state_of c.args.b.now in
    serves_from_places (YieldsList-from_slice xs (search rules)) (λ x q r. search rules)
    (λ x k h e.
    let w : to_nat x.now ≡ word_at xs k = unfold word_at in ap to_nat (e ∙ get_or_default xs k x.now (pos 0) h) in
    let z : to_nat x.now < node_count d = rw w (all-nodes d (map to_nat xs) c.requires.1 _ (circle-member xs k h)) in
    search rules)

pub returns : goal.returns
returns c =
    let xs = c.args.circle.now in
    let test = in_blossom (state_of c.args.b.now) in
    any_from_yields_List (λ x. test (to_nat x)) _ _ _ c.any.ensures.ran
    (YieldsList-from_slice xs (search rules)) (λ x b q k. search (rules, tests))
    ∙ any_mapped test to_nat xs
