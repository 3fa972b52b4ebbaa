use native.Mathlib.Omega.{arith}
use mathlib.Core.Path.{refl}
use Rattle.c_api.specs.laws.Words.{told-all}
use Rattle.c_api_calls.specs.Told.{ListedTold}
use Rattle.c_api_calls.specs.Tests.{keeps}
use Rattle.c_api_calls.specs.ListCall.{list_vertex}
use Rattle.c_api_calls.specs.laws.Done.{call-done}
use borrow.Author.Rules.{rules}
use Rattle.c_api_calls.proofs.each.vertex.Goals as goal

pub returns : goal.returns
unfolding ListedTold keeps
returns c =
    let k = c.tell_plain.ensures in
    rw (← c.word-n.ensures.0)
    (call-done (list_vertex _) _ (
      told-all (omega arith) _ c.get_representative_vertex-a.ensures k.0,
      (refl, refl),
    )
    refl
    c.requires.0.cleared k.1 k.2)
