use Rattle.active_list.specs.laws.Words.{entry-put}
use Rattle.graph.specs.Form.{Laid}
use native.Mathlib.Omega.{arith}
use borrow.Author.Rules.{rules}
use Rattle.active_list.proofs.put_entry.Goals as goal

pub put_active-requires : goal.put_active-requires
unfolding Laid
put_active-requires c = (c.requires.0.laid, omega arith, search rules)

pub returns : goal.returns
returns c = entry-put _ _ c.requires.0 c.args.i c.args.x c.put_active.ensures c.requires.1
