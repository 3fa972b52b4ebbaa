-- How many small patches there are of which each vertex reaches vertex 3, and of which not.
use Rattle.std.specs.Prelude.{◌≡◌, refl, not, length}
use Rattle.graph.specs.Basic.{fold, only, all_below}
use Rattle.small_patches.specs.SmallPatch.{pairs, patches_over, patches}
use Rattle.small_patches.specs.Reach.{spread_to, spread_along, spread_over, marks_of, all_reach}

pub patches-counted : length patches ≡ 728
unfolding patches patches_over pairs
patches-counted = refl

-- the computed counts
pub yes-counted : length (only all_reach patches) ≡ 624
unfolding all_reach marks_of spread_over spread_along spread_to patches patches_over pairs all_below fold only
yes-counted = refl

pub no-counted : length (only (λ es. not (all_reach es)) patches) ≡ 104
unfolding all_reach marks_of spread_over spread_along spread_to patches patches_over pairs all_below fold only
no-counted = refl
