use borrow.Author.Rules.{rules}
use borrow.Author.Tests.{tests}
use mathlib.Core.Path.{◌≡◌, refl, ◌∙◌, ap}
use mathlib.Core.Bool.{Bool, not}
use mathlib.Core.List.{List, [], ◌∷◌}
use Prim.Native.Nat.{ℕ}
use lib.Dec.{eqb}
use lib.IntN.{ℤ}
use Rattle.graph.specs.Basic.{any, member}
use Rattle.graph.specs.Word.{to_nat}
use Rattle.graph.specs.Opening.{virtuals_from}
use Rattle.std.specs.List.{list_any}
use Rattle.std.proofs.lemmas.Iterator.{YieldsList-from_slice}
use Rattle.std.proofs.lemmas.Iterator.Search.{any_from_yields_List}
use Rattle.records.proofs.setup.missing.Goals as goal

any_member : (x : ℕ) (l : List ℤ) → list_any (λ w. eqb x (to_nat w)) l ≡ member x (virtuals_from l)
unfolding any member virtuals_from
any_member x [] = refl
any_member x (w ∷ l) = rw (any_member x l)

pub returns : goal.returns
returns c =
    let a = c.args in
    ap not
    (any_from_yields_List (λ w. eqb a.x (to_nat w)) _ _ _ c.any.ensures.ran (YieldsList-from_slice a.words.now (cc))
    (λ w b q k. search (rules, tests)) ∙ any_member a.x a.words.now)
