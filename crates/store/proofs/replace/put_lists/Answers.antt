use Rattle.store.specs.laws.Store.{stored}
use Rattle.store.proofs.replace.put_lists.Goals as goal

pub returns : goal.returns
returns c =
    stored _ _ _ _ c.args.t.now c.args.p.start c.args.p.boundary c.args.p.length c.args.p.rest c.args.c.boundary c.args.c.stays
    c.args.c.from c.args.c.pushed c.requires.0 c.requires.1 c.requires.2
    c.make_room.ensures c.fill.ensures c.fill-2.ensures c.requires.5 c.requires.6
