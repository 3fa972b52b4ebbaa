use native.Mathlib.Omega.{arith}
use native.Mathlib.Nat.{mul-le-mul}
use Rattle.std.specs.Prelude.{◌+◌, ◌*◌, ◌≤◌}
use Rattle.calls.proofs.refuse.over_store.Goals.{After-store_limit}
use Rattle.calls.proofs.refuse.over_store.Goals as goal

-- the product is small

small : (c : After-store_limit)
    → c.args.k * (c.side_count-m.result + c.vertex_count-v.result)
    ≤ 1025 * 9216
small c =
    let h : c.side_count-m.result + c.vertex_count-v.result ≤ 9216 = omega arith in
    mul-le-mul c.requires.2 h

pub overflow_mul-result : goal.overflow_mul-result
overflow_mul-result c = let h = small c in record { fits = omega arith }

pub overflow_add-result-2 : goal.overflow_add-result-2
overflow_add-result-2 c = let h = small c in record { fits = omega (arith, c.requires.1) }

pub returns : goal.returns
returns c = rw (c.store_limit.ensures.0, c.side_count-m.ensures.0, c.vertex_count-v.ensures.0)
