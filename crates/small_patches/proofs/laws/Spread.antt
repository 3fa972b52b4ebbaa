-- Three times along all edges leave no mark to spread.
use Rattle.std.specs.Prelude.{◌≡◌, refl, Bool, true, List, ℕ, eqb, get_or}
use Rattle.graph.specs.Basic.{fold, all}
use Rattle.graph.specs.Open.{Edge}
use Rattle.small_patches.specs.SmallPatch.{pairs, SmallPatch, patches_over}
use Rattle.small_patches.specs.Reach.{spread_to, spread_along, spread_over, marks_of}
use Rattle.small_patches.proofs.laws.Entries.{all-entry, patch-entry}

-- both ends of an edge have the same mark
unfoldable pub same_marks : List ℕ → Edge → Bool
same_marks m e = eqb (get_or m e.left 0) (get_or m e.right 0)

-- both ends of each edge
unfoldable pub spread_out : List Edge → Bool
spread_out es = all (same_marks (marks_of es)) es

-- the computed test
all-spread-out : all spread_out (patches_over pairs) ≡ true
unfolding spread_out same_marks marks_of spread_over spread_along spread_to patches_over pairs all fold
all-spread-out = refl

pub patch-spread-out : (es : List Edge) → SmallPatch es → spread_out es ≡ true
patch-spread-out es p = all-entry spread_out all-spread-out (patch-entry p)
