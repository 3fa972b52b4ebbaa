use Rattle.std.proofs.Common.{◌≡◌, ◌%◌, ◌++◌, map, take, drop, pos}
use Rattle.graph.specs.Word.{to_nat}
use Rattle.store.proofs.clear.drop_defects.Given as goal

abbrev pub invariant-loop-w : goal.invariant-loop-w
invariant-loop-w l =
    l.w-items ≡ map (λ x. pos (to_nat x % 2)) (take l.w-index l.initial.w-items) ++ drop l.w-index l.initial.w-items
