-- The lines that the program writes.
use Rattle.std.specs.Prelude.{Bool, List, [], ◌∷◌, ℕ, zero, suc, ◌+◌, if◌then◌else◌}
use Rattle.records.specs.Text.{ascii}
use Rattle.records.specs.Lines.{line}
use Rattle.small_patches.specs.SmallPatch.{patch_at}
use Rattle.small_patches.specs.Reach.{all_reach}

-- what is said of a graph
abbrev pub yes_or_no : Bool → List ℕ
yes_or_no reach = if reach then ascii "yes" else ascii "no"

-- the line of graph k
unfoldable pub patch_line : ℕ → List ℕ
patch_line k = line k (yes_or_no (all_reach (patch_at k)))

-- the lines of n graphs, from graph k on
unfoldable pub patch_lines_from : ℕ → ℕ → List (List ℕ)
patch_lines_from k zero = []
patch_lines_from k (suc n) = patch_line k ∷ patch_lines_from (k + 1) n

-- one for each graph
unfoldable pub listing : List (List ℕ)
listing = patch_lines_from 1 728
