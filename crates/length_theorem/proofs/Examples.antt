-- The theorems on graph P, by computing; and the smallest graph on which a tight node gets a free length because a Shrink node stands between.
use Rattle.std.specs.Prelude.{ℕ, ◌+◌, ◌≡◌, refl, true, false, List, [], ◌∷◌, pos}
use Rattle.std.proofs.Common.{arith}
use Rattle.graph.specs.Open.{Edge, opened, open_refusal}
use Rattle.answers.specs.Outcome.{Length}
use Rattle.answers.specs.declared.MaxUpdateLength.TheVariants.{Unlimited, Conflicting}
use Rattle.calls.specs.Calls.{Call, InsertDefect, Grow}
use Rattle.calls.specs.Examples.{edge}
use Rattle.reachable.specs.Reachable.{after}
use Rattle.distance.specs.Distance.{dist}
use Rattle.opened_graph.specs.OpenedGraph.{with_weights, PositiveWeights}
use Rattle.table_theorem.specs.History.{no_blossoms}
use Rattle.table_theorem.specs.Runs.{Run}
use Rattle.table_theorem.specs.Opens.{everything}
use Rattle.length_theorem.specs.Meaning.{run_graph, dual_is, growing_length, DefectAt, ConflictMeans, Tight, with-node}
use Rattle.length_theorem.proofs.Theorems.{conflict-is-tight}

-- ---- graph P with a middle edge of weight w; N 4, L 40

abbrev edges_p : ℕ → List Edge
edges_p w = edge 0 1 4 ∷ edge 1 2 w ∷ edge 2 3 4 ∷ []

abbrev virtuals_p : List ℕ
virtuals_p = 0 ∷ 3 ∷ []

positive-4 : PositiveWeights (edges_p 4)
unfolding everything
positive-4 = refl

-- P1: both grown by 2, and they meet
opening-4 : open_refusal 4 3 4 40 (edges_p 4) virtuals_p true ≡ 0
unfolding everything
opening-4 = refl

abbrev calls_met : List Call
calls_met = InsertDefect 1 1 ∷ InsertDefect 2 1 ∷ Grow 0 (pos 2) ∷ Grow 1 (pos 2) ∷ []

blossomless-met : no_blossoms (opened 4 4 40 (edges_p 4) virtuals_p) calls_met ≡ true
unfolding everything
blossomless-met = refl

present-met : with_weights (edges_p 4) (after (opened 4 4 40 (edges_p 4) virtuals_p) calls_met).graph.weight ≡ (edges_p 4)
unfolding everything
present-met = refl

abbrev met : Run 4 (edges_p 4) virtuals_p
met = record {
  edge_number = 3;
  node_limit = 4;
  store_limit = 40;
  fits = true;
  given = (edges_p 4);
  opening = opening-4;
  calls = calls_met;
  without_blossoms = blossomless-met;
  present = present-met;
}

at_1 : DefectAt met 0 1
unfolding everything
at_1 = record { inside = omega arith; class = refl }

met-answer : growing_length met 0 ≡ Length (Conflicting 1 1 0 0)
unfolding everything
met-answer = refl

-- so 2 and 2 are the distance of 1 and 2
met-tight : ConflictMeans met 0 1 1 0
met-tight = conflict-is-tight positive-4 met at_1 met-answer

met-sum : dual_is met 0 + dual_is met 1 ≡ dist (run_graph met) 1 2
unfolding everything
met-sum = refl

-- P6: a middle edge of 5, one grown by 4. The other, at 0, is in conflict although 1 is left, since the gap of 1 is halved
opening-5 : open_refusal 4 3 4 40 (edges_p 5) virtuals_p true ≡ 0
unfolding everything
opening-5 = refl

abbrev calls_halved : List Call
calls_halved = InsertDefect 1 1 ∷ InsertDefect 2 1 ∷ Grow 0 (pos 4) ∷ []

blossomless-halved : no_blossoms (opened 4 4 40 (edges_p 5) virtuals_p) calls_halved ≡ true
unfolding everything
blossomless-halved = refl

present-halved : with_weights (edges_p 5) (after (opened 4 4 40 (edges_p 5) virtuals_p) calls_halved).graph.weight ≡ (edges_p 5)
unfolding everything
present-halved = refl

abbrev halved : Run 4 (edges_p 5) virtuals_p
halved = record {
  edge_number = 3;
  node_limit = 4;
  store_limit = 40;
  fits = true;
  given = (edges_p 5);
  opening = opening-5;
  calls = calls_halved;
  without_blossoms = blossomless-halved;
  present = present-halved;
}

halved-answer : growing_length halved 1 ≡ Length (Conflicting 0 0 1 1)
unfolding everything
halved-answer = refl

halved-sum : dual_is halved 1 + dual_is halved 0 + 1 ≡ dist (run_graph halved) 2 1
unfolding everything
halved-sum = refl

-- ---- a Shrink node between two others: a star with the Shrink node in the middle

abbrev edges_star : List Edge
edges_star = edge 0 1 1 ∷ edge 0 2 1 ∷ edge 0 3 1 ∷ []

opening-star : open_refusal 4 3 4 40 edges_star (1 ∷ []) true ≡ 0
unfolding everything
opening-star = refl

abbrev calls_star : List Call
calls_star = InsertDefect 0 2 ∷ InsertDefect 2 1 ∷ InsertDefect 3 1 ∷ Grow 1 (pos 1) ∷ Grow 2 (pos 1) ∷ []

blossomless-star : no_blossoms (opened 4 4 40 edges_star (1 ∷ [])) calls_star ≡ true
unfolding everything
blossomless-star = refl

present-star : with_weights edges_star (after (opened 4 4 40 edges_star (1 ∷ [])) calls_star).graph.weight ≡ edges_star
unfolding everything
present-star = refl

abbrev star : Run 4 edges_star (1 ∷ [])
star = record {
  edge_number = 3;
  node_limit = 4;
  store_limit = 40;
  fits = true;
  given = edges_star;
  opening = opening-star;
  calls = calls_star;
  without_blossoms = blossomless-star;
  present = present-star;
}

at-3 : DefectAt star 2 3
unfolding everything
at-3 = record { inside = omega arith; class = refl }

star-sum : dual_is star 1 + dual_is star 2 ≡ dist (run_graph star) 2 3
unfolding everything
star-sum = refl

-- nodes 1 and 2 have a tight constraint,
star-tight : Tight star 1 2
star-tight = with-node 2 3 (λ e. absurd (omega arith)) at-3 star-sum

-- and yet node 1 is answered that nothing limits it
star-answer : growing_length star 1 ≡ Length (Unlimited false)
unfolding everything
star-answer = refl
