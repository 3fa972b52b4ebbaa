use Rattle.store.specs.laws.Store.{moved_up, moved_down}
use borrow.Author.Rules.{rules}
use Rattle.store.proofs.replace.make_room.Goals as goal

pub returns-then-p-end : goal.returns-then-p-end
returns-then-p-end c =
    moved_up _ _ _ c.args.p.start c.args.p.boundary c.args.p.length c.args.p.rest c.args.to c.args.stays c.args.end
    c.requires.1 c.requires.2 (search rules) (search rules) c.move_words-then-p-end.ensures

pub returns-else-p-end : goal.returns-else-p-end
returns-else-p-end c =
    moved_down _ _ _ c.args.p.start c.args.p.boundary c.args.p.length c.args.p.rest c.args.to c.args.stays c.args.end
    c.requires.1 c.requires.2 (search rules) (search rules) c.move_words-else-p-end-2.ensures
