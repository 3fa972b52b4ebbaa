use borrow.Author.Rules.{rules}
use borrow.Author.Tests.{tests}
use mathlib.Core.Path.{◌≡◌, refl, ◌∙◌}
use mathlib.Core.Bool.{Bool}
use mathlib.Core.List.{List, [], ◌∷◌, map}
use Prim.Native.Nat.{ℕ}
use lib.Dec.{leb}
use lib.IntN.{ℤ}
use Rattle.graph.specs.Basic.{all}
use Rattle.graph.specs.Word.{to_nat}
use Rattle.graph.specs.laws.Chains.{all_of_list}
use Rattle.table_refuse.proofs.refuse.at_most.Goals as goal

all_numbers : (p : ℕ → Bool) (l : List ℤ) → all (λ x. p (to_nat x)) l ≡ all p (map to_nat l)
unfolding all
all_numbers p [] = refl
all_numbers p (x ∷ l) = rw (all_numbers p l)

pub returns : goal.returns
returns c =
    let a = c.args in
    all_of_list (λ x. leb (to_nat x) a.limit) a.list.now _ _ _ c.all.ensures.ran (cc) (λ x b q k. search (rules, tests))
    ∙ all_numbers (λ x. leb x a.limit) a.list.now
