use Rattle.small_patches.proofs.laws.Words.{put_one}
use Rattle.small_patches.proofs.patch.put_edge.Goals as goal

pub returns : goal.returns
returns c =
    let a = c.args in
    rw (c.put-3.ensures, c.put-2.ensures, c.put.ensures)
    (put_one a.edges.now a.n (record { left = a.left; right = a.right; weight = a.weight }))
