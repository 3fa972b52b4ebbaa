use Rattle.std.proofs.Common.{rules, tests, ap, ◌∙◌, ◌≡◌, refl, true, List, [], ◌∷◌, Bool, ◌<◌, ltb-true}
use Rattle.std.specs.Prelude.{map, ltb, ◌||◌}
use Rattle.std.specs.List.{list_any}
use Rattle.std.proofs.lemmas.Iterator.{YieldsList-from_slice}
use Rattle.std.proofs.lemmas.Iterator.Adapters.{serves_from_places}
use Rattle.std.proofs.lemmas.Iterator.Search.{any_from_yields_List}
use Rattle.graph.specs.Basic.{any, all}
use Rattle.graph.specs.State.{side_count}
use Rattle.graph.specs.Word.{to_nat}
use Rattle.graph.specs.Layout.{state_of}
use Rattle.pass.specs.Grow.{reaches}
use Rattle.graph.specs.inner.Form.{sides_ok}
use Rattle.graph.specs.laws.Chains.{any_mapped}
use Rattle.graph.specs.laws.Members.{all-unmap}
use Rattle.graph.specs.laws.Scan.{list_at}
use Rattle.grow_pass.proofs.grow.reaches_any.Goals as goal

pub any-requires-clause-callable : goal.any-requires-clause-callable
any-requires-clause-callable c =
    let xs = c.boundary.result.now in
    let m = side_count (state_of c.args.b.now) in
    let within : all (λ x. ltb (to_nat x) m) xs ≡ true =
    all-unmap (λ s. ltb s m) to_nat xs (unfold sides_ok in rw (← c.boundary.ensures) at c.requires.2) in
    serves_from_places (YieldsList-from_slice xs (search rules)) (λ x q r. search rules)
    (λ x k h e. let z : to_nat x.now < m =
    rw e (ltb-true _ _ (list_at (λ y. ltb (to_nat y) m) xs k x.now within h)) in search rules)

pub returns : goal.returns
returns c =
    let d = state_of c.args.b.now in
    any_from_yields_List (λ x. reaches d (to_nat x)) _ _ _ c.any.ensures.ran
    (YieldsList-from_slice c.boundary.result.now (search rules)) (λ x b q k. search (rules, tests))
    ∙ any_mapped (reaches d) to_nat c.boundary.result.now ∙ ap (any (reaches d)) c.boundary.ensures
