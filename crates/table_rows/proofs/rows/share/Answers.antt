use Rattle.distance.proofs.laws.Table.{share-outward, share-inward, share-across}
use mathlib.Core.Path.{sym}
use Rattle.table_rows.proofs.rows.share.Goals as goal

pub returns-then-f-n : goal.returns-then-f-n
returns-then-f-n c =
    rw c.min.ensures (sym (share-outward c.args.y c.args.n c.args.f c.args.w c.if-f-n.true))

pub returns-then-n-f : goal.returns-then-n-f
returns-then-n-f c = let s = c.args in sym (share-inward s.y s.n s.f s.w c.if-n-f.true)

pub returns-else-n-f : goal.returns-else-n-f
returns-else-n-f c = let s = c.args in sym (share-across s.y s.n s.f s.w c.if-f-n.false c.if-n-f.false)
