use Rattle.std.proofs.Common.{rules, tests, ap, ◌∙◌, ◌≡◌, refl, List, [], ◌∷◌, Bool, ◌<◌, ltb-true}
use Rattle.std.specs.Prelude.{map, ltb, ◌||◌}
use Rattle.std.specs.List.{list_any}
use Rattle.std.proofs.lemmas.Iterator.{YieldsList-from_slice}
use Rattle.std.proofs.lemmas.Iterator.Adapters.{serves_from_places}
use Rattle.std.proofs.lemmas.Iterator.Search.{any_from_yields_List}
use Rattle.graph.specs.Basic.{any}
use Rattle.graph.specs.State.{side_count}
use Rattle.graph.specs.Word.{to_nat}
use Rattle.graph.specs.Layout.{state_of}
use Rattle.graph.specs.laws.Members.{all-unmap}
use Rattle.graph.specs.laws.Scan.{list_at}
use Rattle.graph.specs.laws.Chains.{any_mapped}
use Rattle.growth.specs.inner.Moving.{side_refuses}
use Rattle.growth.proofs.some_side_refuses.Goals as goal

pub any-requires-clause-callable : goal.any-requires-clause-callable
any-requires-clause-callable c =
    let xs = c.args.boundary.now in
    let m = side_count (state_of c.args.b.now) in
    let within = all-unmap (λ s. ltb s m) to_nat xs c.requires.4 in
    serves_from_places (YieldsList-from_slice xs (search rules)) (λ x q r. search rules)
    (λ x k h e. let z : to_nat x.now < m =
    rw e (ltb-true _ _ (list_at (λ y. ltb (to_nat y) m) xs k x.now within h)) in search rules)

pub returns : goal.returns
returns c =
    let xs = c.args.boundary.now in
    let test = side_refuses (state_of c.args.b.now) c.args.n c.args.l c.args.k in
    any_from_yields_List (λ x. test (to_nat x)) _ _ _ c.any.ensures.ran
    (YieldsList-from_slice xs (search rules)) (λ x b q k. search (rules, tests))
    ∙ any_mapped test to_nat xs
