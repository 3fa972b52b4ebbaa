use native.Mathlib.Omega.{arith}
use mathlib.Core.Path.{refl}
use Rattle.c_api.specs.laws.Words.{told-all}
use Rattle.c_api_calls.specs.Told.{ListedTold}
use Rattle.c_api_calls.specs.Tests.{keeps}
use Rattle.c_api_calls.specs.ListCall.{list_gap}
use Rattle.c_api_calls.specs.laws.Done.{call-done}
use borrow.Author.Rules.{rules}
use Rattle.c_api_calls.proofs.each.gap.Goals as goal

pub returns : goal.returns
unfolding ListedTold keeps
returns c =
    rw (← c.word-e.ensures.0)
    (call-done (list_gap _) _ (
      told-all (omega arith) _ c.edge_gap-a.ensures
          c.tell_gap.ensures,
      (refl, refl),
    )
    refl
    c.requires.0.cleared refl refl)
