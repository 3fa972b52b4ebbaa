use mathlib.Core.Path.{◌≡◌}
use lib.IntN.{pos}
use lib.ListN.{get_or}
use mir.Val.{to_z, of_z}
use mir.Syntax.{w64}
use native.Mathlib.Omega.{arith}
use Rattle.c_api.specs.laws.Words.{told-all}
use Rattle.c_api_calls.specs.ListCall.{list_grow}
use Rattle.c_api_calls.specs.Told.{ListedTold}
use Rattle.c_api_calls.specs.Tests.{keeps}
use Rattle.c_api_calls.specs.laws.Done.{call-done}
use borrow.Author.Rules.{rules}
use Rattle.c_api_calls.proofs.each.grow.Goals as goal

pub returns : goal.returns
unfolding ListedTold keeps
returns c =
    let z : to_z w64 (of_z w64 (get_or c.args.w.now 2 (pos 0))) ≡ get_or c.args.w.now 2 (pos 0) = search rules in
    let r = rw z at c.grow_dual_node-k.ensures in
    let k = c.tell_known.ensures in
    rw (← c.word-n.ensures.0)
    (call-done (list_grow _ _) _ (told-all (omega arith) _ r.0 k.0) r.1 r.2 k.1 k.2)
