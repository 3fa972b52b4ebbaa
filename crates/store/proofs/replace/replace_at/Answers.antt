use Rattle.store.specs.laws.Replace.{asked-sizes, replaced}
use Rattle.store.proofs.replace.replace_at.Goals as goal

pub put_sizes-requires : goal.put_sizes-requires
put_sizes-requires c =
    asked-sizes _ _ c.args.n c.args.p.start c.args.p.boundary c.args.p.length c.args.p.rest c.args.c.boundary c.args.c.stays
    c.args.c.pushed _ c.requires.0 c.requires.1 c.put_lists.ensures.still c.node_count-count.ensures.0

pub returns : goal.returns
returns c =
    replaced _ _ _ c.args.t.now c.args.n c.args.p.start c.args.p.boundary c.args.p.length c.args.p.rest c.args.c.boundary c.args.c.stays
    c.args.c.from c.args.c.pushed c.requires.0 c.requires.1 c.put_lists.ensures
    (rw c.node_count-count.ensures.0 at c.put_sizes.ensures)
    c.requires.2 c.requires.3
