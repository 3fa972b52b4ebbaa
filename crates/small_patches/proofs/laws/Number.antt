-- The number of a patch, read off the weights between its vertices: the digits of base 3 that the pairs have.
use Rattle.std.specs.Prelude.{◌≡◌, ℕ, ◌+◌, ◌*◌, ◌/◌, ◌<◌, length, get_or}
use Rattle.std.proofs.Math.Path.{refl}
use Rattle.std.proofs.Common.{sym, ap, ◌∙◌}
use mathlib.Core.List.{List, [], ◌∷◌, map}
use Rattle.std.proofs.lemmas.List.{length-map}
use Rattle.std.proofs.Math.ListN.{get_or-map}
use Rattle.graph.specs.Basic.{below}
use Rattle.graph.specs.Open.{Edge}
use Rattle.graph.specs.laws.Members.{length-below}
use Rattle.graph.specs.laws.Opened.{get_d-below}
use Rattle.small_patches.specs.SmallPatch.{Pair, pairs, patches_over, patch_at, weight_between, SameWeights}

-- the digits of the pairs, behind those of n
unfoldable pub number_from : List Edge → List Pair → ℕ → ℕ
number_from es [] n = n
number_from es (p ∷ ps) n = number_from es ps (3 * n + weight_between es p.left p.right / 2)

unfoldable pub number_of : List Edge → ℕ
number_of es = number_from es pairs 0

-- the computed test: graph by graph the numbers are 0 to 728
numbers : map number_of (patches_over pairs) ≡ below 729
unfolding number_of number_from weight_between patches_over pairs below
numbers = refl

pub patches-count : length (patches_over pairs) ≡ 729
patches-count = sym (length-map (patches_over pairs) number_of) ∙ ap length numbers ∙ length-below 729

pub number-of-patch : (k : ℕ) → k < 729 → number_of (patch_at k) ≡ k
unfolding patch_at
number-of-patch k h =
    sym (get_or-map number_of (patches_over pairs) k [])
    ∙ ap (λ (l : List ℕ). get_or l k (number_of [])) numbers
    ∙ get_d-below 729 k (number_of []) h

-- it depends on the weights alone
module _ (es fs : List Edge) (same : SameWeights es fs) where
  same_from : (ps : List Pair) (n : ℕ) → number_from es ps n ≡ number_from fs ps n
  unfolding number_from
  same_from [] n = refl
  same_from (p ∷ ps) n = rw (same p.left p.right) (same_from ps (3 * n + weight_between fs p.left p.right / 2))

  pub same_number : number_of es ≡ number_of fs
  unfolding number_of
  same_number = same_from pairs 0

pub number-of-none : number_of [] ≡ 0
unfolding number_of number_from weight_between pairs
number-of-none = refl
