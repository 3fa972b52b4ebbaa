use Rattle.update_length.specs.inner.Length.{scan_by, is_over}
use borrow.Author.Rules.{rules}
use Rattle.update_length.proofs.join.is_over.Goals as goal

pub returns-in-OpenEnded : goal.returns-in-OpenEnded
unfolding is_over scan_by
returns-in-OpenEnded g c f = search rules

pub returns-in-Within : goal.returns-in-Within
unfolding is_over scan_by
returns-in-Within g c f = search rules

pub returns-in-Over : goal.returns-in-Over
unfolding is_over scan_by
returns-in-Over g c f = search rules
