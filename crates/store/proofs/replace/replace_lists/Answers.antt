use Rattle.store.specs.laws.Replace.{asked-part, asked_of}
use Rattle.store.proofs.replace.replace_lists.Goals as goal

pub overflow_sub-rest : goal.overflow_sub-rest
overflow_sub-rest c =
    asked-part c.args.b.now c.args.n _ _ _ _ c.requires.0.laid c.requires.0.listed c.requires.1
    c.start-start.ensures.0
    c.boundary_len-boundary.ensures.0 c.overgrown_len.ensures.0
    c.entry_count.ensures.0

pub replace_at-requires : goal.replace_at-requires
replace_at-requires c = (
  c.requires.0,
  asked_of c.args.b.now c.args.n _ _ _ _ c.requires.0.laid c.requires.0.listed c.requires.1
      c.start-start.ensures.0
      c.boundary_len-boundary.ensures.0
      c.overgrown_len.ensures.0 c.entry_count.ensures.0 c.args.k c.args.m
      c.args.o c.requires.4 c.requires.5,
  c.requires.2,
  c.requires.3,
)
