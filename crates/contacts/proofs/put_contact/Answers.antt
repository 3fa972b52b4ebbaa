use mathlib.Core.Path.{◌∙◌, ap}
use lib.ListN.{set}
use Prim.Native.Nat.{◌+◌, ◌*◌}
use Rattle.graph.specs.Layout.{state_of}
use Rattle.calls.specs.Contacts.{side_node, end_word}
use Rattle.contacts.proofs.put_contact.Goals as goal

pub returns : goal.returns
returns c =
    let d = state_of c.args.b.now in
    c.put_end-2.ensures
    ∙ ap (λ l. set l (c.args.i + 2) (end_word (side_node d (2 * c.args.e + 1)))) (c.put_end.ensures
    ∙ ap (λ l. set l (c.args.i + 1) (end_word (side_node d (2 * c.args.e)))) c.put.ensures)
