use native.Mathlib.Omega.{arith}
use Rattle.shrink_pass.specs.laws.Finish.{tops_fit, lists-fit, after-shrink}
use Rattle.shrink_pass.proofs.shrink.shrink_all.Goals as goal

pub overflow_sub-o : goal.overflow_sub-o
overflow_sub-o c =
    let s = c.requires in
    rw c.overgrown_len-o.ensures.0
    (tops_fit s.0 s.1
    c.side_count-m.ensures.0 s.2
    c.shrink_work-p.ensures.1)

pub replace_lists-requires : goal.replace_lists-requires
replace_lists-requires c =
    let s = c.requires in
    let w = c.shrink_work-p.ensures in
    let q = w.1 in (
      w.0.formed,
      omega arith,
      omega (arith, q.kept, q.scratch.keeps, q.scratch.size),
      omega arith,
      omega arith,
      lists-fit s.0 s.1
          c.side_count-m.ensures.0 s.2 q
          c.overgrown_len-o.result c.overgrown_len-o.ensures.0,
    )

pub returns : goal.returns
returns c =
    let s =
    c.requires in
    let w =
    c.shrink_work-p.ensures in
    rw c.called.ensures
    (after-shrink s.0 s.1 c.side_count-m.ensures.0
    s.2 w.1 c.overgrown_len-o.result
    c.overgrown_len-o.ensures.0 w.0
    c.replace_lists.ensures c.clear.ensures)
