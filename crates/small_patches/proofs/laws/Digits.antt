-- The graphs by the digits of their numbers.
use Rattle.std.specs.Prelude.{◌≡◌, refl, ◌≢◌, List, [], ◌∷◌, ◌++◌, map, ℕ, zero, suc, ◌≤◌, ◌<◌, get_or}
use Rattle.std.proofs.Common.{sym, ap, ◌∙◌, arith}
use Rattle.std.proofs.Math.ListN.{get_or-eq_default}
use Rattle.graph.specs.Basic.{below}
use Rattle.graph.specs.Open.{Edge}
use Rattle.graph.specs.laws.Opened.{get_d-tabled}
use Rattle.small_patches.specs.SmallPatch.{Pair, pairs, edge_over, patches_over, patch_at}
use Rattle.small_patches.specs.Words.{weight_of, edges_by, edges_of_zero, other_edges}
use Rattle.small_patches.proofs.laws.Number.{patches-count}

-- the computed test: graph by graph the digits give the list
digits : map (λ k. edges_of_zero k ++ other_edges k) (below 729) ≡ patches_over pairs
unfolding edges_of_zero other_edges edges_by weight_of patches_over pairs below
digits = refl

pub patch-by-digits : (k : ℕ) → k ≤ 728 → edges_of_zero k ++ other_edges k ≡ patch_at k
unfolding patch_at
patch-by-digits k h =
    sym (get_d-tabled (λ k. edges_of_zero k ++ other_edges k) 729 k [] (omega arith)) ∙ ap (λ (l : List (List Edge)). get_or l k []) digits

-- past the end there is none
pub patch-past : (k : ℕ) → 728 < k → patch_at k ≡ []
unfolding patch_at
patch-past k h = get_or-eq_default (patches_over pairs) [] (omega (arith, patches-count))

-- ---- one digit

pub absent-pair : (d : ℕ) (p : Pair) → d ≡ 0 → edges_by d p ≡ []
unfolding edges_by
absent-pair d p e = rw e

pub present-pair : (d : ℕ) (p : Pair) → d ≢ 0 → edges_by d p ≡ edge_over p (weight_of d) ∷ []
unfolding edges_by
present-pair zero p e = absurd (e refl)
present-pair (suc d) p e = refl
