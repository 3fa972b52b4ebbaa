use Rattle.records.specs.laws.Write.{told-full, told_over, told-fits}
use borrow.Author.Rules.{rules}
use Rattle.records.proofs.lines.put_line.Goals as goal

pub returns-then-o : goal.returns-then-o
returns-then-o c = told-full _ _ _ _ c.if-o.true (search rules) (search rules)

pub returns-then-lines-o : goal.returns-then-lines-o
returns-then-lines-o c = told_over _ _ _ _ c.if-o.false (search rules) (search rules) (search rules)

pub returns : goal.returns
returns c =
    let a = c.args in
    told-fits a.lines.now a.o.at a.o.full _ _ a.l.now
    c.if-o.false (search rules) (search rules) (search rules)
    c.word-n.ensures
