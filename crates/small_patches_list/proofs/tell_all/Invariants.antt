use Rattle.small_patches_list.specs.Listing.{patch_lines_from, listing}
use Rattle.records.specs.laws.Table.{Telling}
use lib.ListN.{length}
use mathlib.Core.Bool.{false}
use mathlib.Core.Path.{◌≡◌}
use Prim.Native.Nat.{◌-◌, ◌≤◌}
use Rattle.small_patches_list.proofs.tell_all.Given as goal

abbrev pub invariant-loop-k : goal.invariant-loop-k
invariant-loop-k l =
    Telling l.initial.lines 0 false l.lines l.o.at l.o.full listing (patch_lines_from l.k (729 - l.k))
    × (length l.lines ≡ length l.initial.lines)
