use native.Mathlib.Omega.{arith}
use mathlib.Core.Path.{refl}
use Rattle.c_api.specs.laws.Words.{told-all}
use Rattle.c_api_calls.specs.Told.{ListedTold}
use Rattle.c_api_calls.specs.Tests.{keeps}
use Rattle.c_api_calls.specs.ListCall.{list_node}
use Rattle.c_api_calls.specs.laws.Done.{call-done}
use borrow.Author.Rules.{rules}
use Rattle.c_api_calls.proofs.each.node.Goals as goal

pub returns : goal.returns
unfolding ListedTold keeps
returns c =
    rw (← c.word-n.ensures.0)
    (call-done (list_node _) _ (
      told-all (omega arith) _ c.read_node-a.ensures
          c.tell_node.ensures,
      (refl, refl),
    )
    refl
    c.requires.0.cleared refl refl)
