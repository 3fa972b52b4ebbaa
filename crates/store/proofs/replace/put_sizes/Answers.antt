use Rattle.store.specs.laws.Store.{resized}
use Rattle.store.proofs.replace.put_sizes.Goals as goal

pub returns : goal.returns
returns c =
    resized _ _ _ _ c.args.n c.args.c c.args.k c.args.o c.args.y
    c.shift_starts.ensures
    c.put_node.ensures c.put_node-2.ensures
