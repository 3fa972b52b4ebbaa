use Rattle.std.proofs.Common.{rules, tests, ℕ, ap, ◌∙◌, ◌≡◌, ◌+◌, refl, true, List, [], ◌∷◌, Bool, ◌<◌, ltb-true, eqb}
use Rattle.std.specs.Prelude.{map, ltb, ◌&&◌}
use Rattle.std.specs.List.{list_all}
use Rattle.std.proofs.lemmas.Iterator.{YieldsList-from_slice}
use Rattle.std.proofs.lemmas.Iterator.Adapters.{serves_from_places}
use Rattle.std.proofs.lemmas.Iterator.Search.{all_from_yields_List}
use Rattle.graph.specs.Basic.{all}
use Rattle.graph.specs.State.{side_count, holder_at}
use Rattle.graph.specs.Word.{to_nat}
use Rattle.graph.specs.Layout.{state_of}
use Rattle.graph.specs.inner.Form.{sides_ok}
use Rattle.graph.specs.laws.Members.{all-unmap}
use Rattle.graph.specs.laws.Scan.{list_at}
use Rattle.graph.specs.laws.Chains.{all_mapped}
use Rattle.prepare_tested.proofs.held.holds_sides.Goals as goal

pub all-requires-clause-callable : goal.all-requires-clause-callable
all-requires-clause-callable c =
    let xs = c.boundary.result.now in
    let m = side_count (state_of c.args.b.now) in
    let within : all (λ x. ltb (to_nat x) m) xs ≡ true =
    all-unmap (λ s. ltb s m) to_nat xs (unfold sides_ok in rw (← c.boundary.ensures) at c.requires.2.sides) in
    serves_from_places (YieldsList-from_slice xs (search rules)) (λ x q r. search rules)
    (λ x k h e. let z : to_nat x.now < m =
    rw e (ltb-true _ _ (list_at (λ y. ltb (to_nat y) m) xs k x.now within h)) in search rules)

pub returns : goal.returns
returns c =
    let test : ℕ → Bool = λ s. eqb (holder_at (state_of c.args.b.now) s) (c.args.n + 1) in
    all_from_yields_List (λ x. test (to_nat x)) _ _ _ c.all.ensures.ran
    (YieldsList-from_slice c.boundary.result.now (search rules)) (λ x b q k. search (rules, tests))
    ∙ all_mapped test to_nat c.boundary.result.now ∙ ap (all test) c.boundary.ensures
