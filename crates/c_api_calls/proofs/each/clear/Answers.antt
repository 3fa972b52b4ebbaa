use mathlib.Core.Path.{refl}
use native.Mathlib.Omega.{arith}
use Rattle.c_api.specs.laws.Words.{told-all}
use Rattle.c_api_calls.specs.ListCall.{list_clear}
use Rattle.c_api_calls.specs.Told.{ListedTold}
use Rattle.c_api_calls.specs.Tests.{keeps}
use Rattle.c_api_calls.specs.laws.Done.{call-done}
use borrow.Author.Rules.{rules}
use Rattle.c_api_calls.proofs.each.clear.Goals as goal

pub returns : goal.returns
unfolding ListedTold keeps
returns c =
    let k = c.tell_plain.ensures in
    call-done list_clear _
    (told-all (omega arith) _ c.clear-a.ensures k.0, refl) refl
    c.requires.0.cleared k.1 k.2
