-- A change of weights for one shot (SPECIFICATION 24): a list of edges, each with the weight that it takes.
use Rattle.std.specs.Prelude.{ℕ, ◌+◌, ◌*◌, ◌/◌, Bool, not, ◌||◌, List, [], ◌∷◌, map, length, ℤ, ◌==◌, nat_le, nat_lt, if◌then◌else◌}
use Rattle.graph.specs.Basic.{fold, all, below}
use Rattle.graph.specs.State.{State, edge_count, node_count, with_edge_weight, with_reweighted}
use Rattle.graph.specs.Open.{weight_limit}
use Rattle.graph.specs.Opening.{given_at}
use Rattle.answers.specs.Outcome.{Done}
use Rattle.answers.specs.Answer.{Reply}
use Rattle.calls.specs.Refuse.{unless}

-- an edge, and the weight that it takes
pub record EdgeWeight : Type 0 where
  pub edge : ℕ
  pub weight : ℕ

-- ---- what the host gives

-- pair i has two words: edge, weight; a negative word is out of every range
unfoldable pub edge_weight_at : List ℤ → ℕ → EdgeWeight
edge_weight_at words i = record { edge = given_at words (2 * i); weight = given_at words (2 * i + 1) }

abbrev pub pairs_in : List ℤ → ℕ
pairs_in words = length words / 2

unfoldable pub pairs_from : List ℤ → List EdgeWeight
pairs_from words = map (edge_weight_at words) (below (pairs_in words))

-- ---- refusals

-- the pair names an edge; its weight is in range
unfoldable pub names_edge : State → EdgeWeight → Bool
names_edge c p = nat_lt p.edge (edge_count c)

unfoldable pub weight_in_range : EdgeWeight → Bool
weight_in_range p = nat_le p.weight weight_limit

-- a node exists, or a change that named an edge stands
unfoldable pub weights_bound : State → Bool
weights_bound c = not (node_count c == 0) || not (c.graph.reweighted == 0)

-- 0, or the refusal, each over the whole list
unfoldable pub modifier_refusal : State → List EdgeWeight → ℕ
modifier_refusal c pairs =
    if not (all (names_edge c) pairs) then 3
    else if not (all weight_in_range pairs) then 4
    else if weights_bound c then 16
    else 0

-- ---- the call

-- an edge takes its weight
unfoldable pub reweigh : State → EdgeWeight → State
reweigh c p = with_edge_weight c p.edge p.weight

-- each pair in turn, so that of an edge the last one stays; then the mark. An empty list leaves all as it was
unfoldable pub reweighed : State → List EdgeWeight → State
reweighed c [] = c
reweighed c (p ∷ ps) = with_reweighted (fold reweigh c (p ∷ ps)) 1

unfoldable pub load_edge_modifier : State → List EdgeWeight → Reply
load_edge_modifier c pairs = unless (modifier_refusal c pairs) c (record { answer = Done; state = reweighed c pairs })
