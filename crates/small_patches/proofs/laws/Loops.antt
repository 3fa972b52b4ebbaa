-- Marks that spread along the edges that words give, step by step.
use Rattle.std.specs.Prelude.{◌≡◌, refl, List, ℕ, ◌+◌, ◌≤◌, ◌<◌, ℤ, length, get_or, take}
use Rattle.std.proofs.Common.{ap, ◌∙◌, add-one, arith}
use Rattle.std.proofs.Math.ListN.{length-map}
use Rattle.graph.specs.Basic.{fold, below}
use Rattle.graph.specs.Open.{Edge}
use Rattle.graph.specs.Opening.{edge_at, edges_in, edges_from}
use Rattle.graph.specs.laws.State.{fold_more, fold_done}
use Rattle.graph.specs.laws.Members.{length-below}
use Rattle.graph.specs.laws.Opened.{get_d-tabled}
use Rattle.small_patches.specs.Reach.{spread_along, spread_over}

-- ---- along the first i edges

module _ (w : List ℤ) where
  edges-count : length (edges_from w) ≡ edges_in w
  unfolding edges_from
  edges-count = length-map (below (edges_in w)) (edge_at w) ∙ length-below (edges_in w)

  edge-is : (i : ℕ) → i < edges_in w → get_or (edges_from w) i (edge_at w i) ≡ edge_at w i
  unfolding edges_from
  edge-is i h = get_d-tabled (edge_at w) (edges_in w) i (edge_at w i) h

  module _ (m : List ℕ) (i : ℕ) where
    pub along-more : i < edges_in w
        → fold spread_along m (take (i + 1) (edges_from w)) ≡ spread_along (fold spread_along m (take i (edges_from w))) (edge_at w i)
    along-more h =
        fold_more spread_along m (edges_from w) i (edge_at w i) (omega (arith, edges-count))
        ∙ ap (spread_along (fold spread_along m (take i (edges_from w)))) (edge-is i h)

    pub along-all : edges_in w ≤ i → fold spread_along m (take i (edges_from w)) ≡ fold spread_along m (edges_from w)
    along-all h = fold_done spread_along m (edges_from w) i (omega (arith, edges-count))

-- ---- once more along all edges

pub over_none : (es : List Edge) (m : List ℕ) → m ≡ spread_over es 0 m
unfolding spread_over
over_none es m = refl

pub over-more : (es : List Edge) (n : ℕ) (m : List ℕ) → fold spread_along (spread_over es n m) es ≡ spread_over es (n + 1) m
unfolding spread_over
over-more es n m = rw add-one
