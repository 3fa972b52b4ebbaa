-- What is proved of the small patches, of their list, and of the test of reach. The proofs are in laws/.
use Rattle.std.specs.Prelude.{◌≡◌, refl, ◌≢◌, ◌↔◌, true, not, List, [], ℕ, ◌*◌, ◌≤◌, ℤ, length, take}
use Rattle.std.proofs.Common.{sym, ◌∙◌}
use Rattle.graph.specs.Basic.{all, only}
use Rattle.graph.specs.Open.{Edge}
use Rattle.graph.specs.Opening.{edges_from}
use Rattle.small_patches.specs.SmallPatch.{SmallPatch, opening_of, patches, patch_at, InList, among_four, SameWeights, ListedOnce}
use Rattle.small_patches.specs.Reach.{EachReaches, all_reach}
use Rattle.small_patches.specs.Words.{EdgesPut}
use Rattle.small_patches.proofs.laws.Weights.{same_edges, same-patch, same-weights, same_some}
use Rattle.small_patches.proofs.laws.Listed.{patch-listed, listed-once, listed-patch, listed-some}
use Rattle.small_patches.proofs.laws.Opens.{patch-opens}
use Rattle.small_patches.proofs.laws.Reach.{reach-exactly}
use Rattle.small_patches.proofs.laws.Count.{patches-counted, yes-counted, no-counted}
use Rattle.small_patches.proofs.laws.Words.{edges-read}

-- ---- the list

-- Every small patch with an edge is listed.
pub every-patch-is-listed : (es : List Edge) → SmallPatch es → es ≢ [] → (k : ℕ) × InList k es
every-patch-is-listed = patch-listed

-- Two numbers never list graphs with the same weights between their vertices.
pub no-graph-is-listed-twice : (j k : ℕ) (es fs : List Edge) → InList j es → InList k fs → SameWeights es fs → j ≡ k
no-graph-is-listed-twice j k es fs = listed-once

-- Any edges between the four vertices, in whatever order and either way round, of weights 2 and 4: one number and no other lists a graph
-- with the same weights. (Of two edges between the same vertices the first counts.)
pub every-graph-is-listed-once : (es : List Edge) → all among_four es ≡ true → es ≢ [] → ListedOnce es
every-graph-is-listed-once es four some =
    let k = patch-listed (same_edges es four) (same-patch es four) (same_some es four some) in
    record {
      number = k.0;
      graph = same_edges es four;
      listed = k.1;
      same = same-weights es four;
      only_one = λ j fs l same. listed-once l k.1 (λ a b. same a b ∙ sym (same-weights es four a b));
    }

-- Each graph that is listed is a small patch with an edge.
pub each-listed-is-a-patch : (k : ℕ) (es : List Edge) → InList k es → SmallPatch es × (es ≢ [])
each-listed-is-a-patch k es l = (listed-patch l, listed-some l)

-- Each number from 1 to 728 lists a graph.
pub each-number-lists-a-graph : (k : ℕ) → 1 ≤ k → k ≤ 728 → InList k (patch_at k)
each-number-lists-a-graph k h i = record { first = h; last = i; is = refl }

-- Opening a listed graph, with N 4 and L 200, is refused by nothing.
pub each-listed-opens : (k : ℕ) (es : List Edge) → InList k es → opening_of es ≡ 0
each-listed-opens k es l = patch-opens es (listed-patch l) (listed-some l)

-- ---- reach

-- The test says yes exactly where from each vertex a walk leads to vertex 3.
pub yes-exactly-where-each-reaches : (es : List Edge) → SmallPatch es → es ≢ [] → (all_reach es ≡ true) ↔ EachReaches es
yes-exactly-where-each-reaches = reach-exactly

-- Of the 728 graphs it does so of 624, and not of 104.
pub counts : (length patches ≡ 728) × (length (only all_reach patches) ≡ 624) × (length (only (λ es. not (all_reach es)) patches) ≡ 104)
counts = (patches-counted, yes-counted, no-counted)

-- ---- words

-- The words that `patch` leaves are read by open as the edges of the graph.
pub words-are-the-edges : (b c : List ℤ) (m : ℕ) (es : List Edge) → EdgesPut b 0 c m es → 3 * length es ≤ length b
    → edges_from (take (3 * m) c) ≡ es
words-are-the-edges b c m es = edges-read
