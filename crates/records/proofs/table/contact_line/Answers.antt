use mathlib.Core.Path.{sym, ◌∙◌}
use Rattle.records.specs.laws.Write.{told-lines, told_none}
use Rattle.records.specs.laws.Table.{lines-contact, lines-apart}
use borrow.Author.Rules.{rules}
use Rattle.records.proofs.table.contact_line.Goals as goal

pub returns-then-is_contact : goal.returns-then-is_contact
returns-then-is_contact c =
    let p = c.side_node-p in
    let q = c.side_node-q in
    let t = c.is_contact in
    told-lines c.tell.ensures
    (lines-contact _ _ _ _ _ (sym t.ensures ∙ c.if-is_contact.true) p.ensures.0 q.ensures.0)

pub returns-else-is_contact : goal.returns-else-is_contact
returns-else-is_contact c = told-lines (told_none c.requires.0) (lines-apart _ _ _ (sym c.is_contact.ensures ∙ c.if-is_contact.false))
