-- The numbers of a table in two parts: all but the distances, and the distances.
use Rattle.std.specs.Prelude.{ℕ, ◌≡◌, Bool, ◌&&◌, List, map, ℤ}
use Rattle.std.proofs.Math.Path.{refl}
use Rattle.std.proofs.Math.Bool.{true, false}
use Rattle.std.proofs.Math.Dec.{leb}
use Rattle.graph.specs.Basic.{all}
use Rattle.graph.specs.Word.{to_nat}
use Rattle.graph.specs.Open.{dual_limit, growth_limit}
use Rattle.table_refuse.specs.Refuse.{graph_in_range, defects_in_range, distances_in_range, numbers_right, head_in_range}

module _ (v e : ℕ) (edges virtuals defects duals growths distances : List ℤ) where
  pub numbers-split : numbers_right v edges virtuals defects duals growths distances ≡ head_in_range v edges virtuals defects duals
      growths && distances_in_range distances
  unfolding numbers_right head_in_range
  numbers-split =
      go (graph_in_range v edges virtuals) (defects_in_range v defects) (all (λ x. leb x dual_limit) (map to_nat duals))
      (all (λ x. leb x growth_limit) (map to_nat growths)) (distances_in_range distances)
    where
      go : (a b c d z : Bool) → a && (b && (c && (d && z))) ≡ (a && (b && (c && d))) && z
      go true true true d z = refl
      go true true false d z = refl
      go true false c d z = refl
      go false b c d z = refl
