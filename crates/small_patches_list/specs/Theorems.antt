-- What the lines say. The proofs are in laws/.
use Rattle.std.specs.Prelude.{◌≡◌, List, [], ℕ, ◌-◌, ◌≤◌, length, get_or}
use Rattle.graph.specs.Open.{Edge}
use Rattle.records.specs.Text.{ascii}
use Rattle.records.specs.Lines.{line}
use Rattle.small_patches.specs.SmallPatch.{InList}
use Rattle.small_patches.specs.Reach.{EachReaches}
use Rattle.small_patches_list.specs.Listing.{patch_line, listing}
use Rattle.small_patches_list.specs.laws.Listing.{lines-count, lines_at}
use Rattle.small_patches_list.specs.laws.Said.{says-yes, says-no}

module _ (k : ℕ) (es : List Edge) (listed : InList k es) where
  -- The line of a listed graph is `k yes` where from each vertex a walk leads to vertex 3,
  pub line-says-yes : EachReaches es → patch_line k ≡ line k (ascii "yes")
  line-says-yes = says-yes listed

  -- and `k no` where not.
  pub line-says-no : ¬ EachReaches es → patch_line k ≡ line k (ascii "no")
  line-says-no = says-no listed

-- There are 728 lines, and line k is that of graph k.
pub line-of-each-graph : (length listing ≡ 728) × ((k : ℕ) → 1 ≤ k → k ≤ 728 → get_or listing (k - 1) [] ≡ patch_line k)
unfolding listing
line-of-each-graph = (lines-count 1 728, lines_at)
