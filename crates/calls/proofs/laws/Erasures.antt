-- A change of weights moves the present weights and the mark, and nothing else.
use Rattle.std.specs.Prelude.{◌≡◌, ℕ, ◌≤◌, true, not, ◌||◌, List, [], ◌∷◌, length, ◌==◌, slice_index, slice_set}
use Rattle.std.proofs.Common.{arith, ◌∙◌, length-set, get_or-set_same, get_or-set_other, eqb-true, leb-true}
use Rattle.std.proofs.Math.Decide.{ℕ_discrete as dec_eq, dec_lt}
use Rattle.std.specs.Prelude.{refl}
use Rattle.std.proofs.Math.Seq.{set_out}
use Rattle.std.proofs.lemmas.Bool.{not-false}
use Rattle.graph.specs.Basic.{fold, all}
use Rattle.graph.specs.State.{State, node_count, with_graph, with_edge_weight, with_reweighted}
use Rattle.graph.specs.Open.{weight_limit}
use Rattle.graph.specs.laws.State.{passed}
use Rattle.graph.specs.laws.Members.{all_first, all_others, or-neither-left, or-neither-right}
use Rattle.graph.specs.Shape.{Shape}
use Rattle.calls.specs.Erasures.{EdgeWeight, names_edge, weight_in_range, weights_bound, modifier_refusal, reweigh, reweighed}

-- d is c but for the weights and the mark
pub record OnlyWeights (c d : State) : Type 0 where
  pub end : d.graph.end ≡ c.graph.end
  pub original : d.graph.original ≡ c.graph.original
  pub at : d.graph.at ≡ c.graph.at
  pub virtual : d.graph.virtual ≡ c.graph.virtual
  pub edges : length d.graph.weight ≡ length c.graph.weight
  pub vertices : d.vertices ≡ c.vertices
  pub sides : d.sides ≡ c.sides
  pub nodes : d.nodes ≡ c.nodes
  pub node_limit : d.node_limit ≡ c.node_limit
  pub store_limit : d.store_limit ≡ c.store_limit
  pub active : d.active ≡ c.active

weights-none : (c : State) → OnlyWeights c c
weights-none c =
    record {
      end = refl;
      original = refl;
      at = refl;
      virtual = refl;
      edges = refl;
      vertices = refl;
      sides = refl;
      nodes = refl;
      node_limit = refl;
      store_limit = refl;
      active = refl;
    }

weights-then : {c d e : State} → OnlyWeights c d → OnlyWeights d e → OnlyWeights c e
weights-then p q =
    record {
      end = q.end ∙ p.end;
      original = q.original ∙ p.original;
      at = q.at ∙ p.at;
      virtual = q.virtual ∙ p.virtual;
      edges = q.edges ∙ p.edges;
      vertices = q.vertices ∙ p.vertices;
      sides = q.sides ∙ p.sides;
      nodes = q.nodes ∙ p.nodes;
      node_limit = q.node_limit ∙ p.node_limit;
      store_limit = q.store_limit ∙ p.store_limit;
      active = q.active ∙ p.active;
    }

weights-one : (c : State) (p : EdgeWeight) → OnlyWeights c (reweigh c p)
unfolding reweigh with_edge_weight with_graph
weights-one c p =
    record {
      end = refl;
      original = refl;
      at = refl;
      virtual = refl;
      edges = length-set c.graph.weight p.edge p.weight;
      vertices = refl;
      sides = refl;
      nodes = refl;
      node_limit = refl;
      store_limit = refl;
      active = refl;
    }

weights-mark : (c : State) (x : ℕ) → OnlyWeights c (with_reweighted c x)
unfolding with_reweighted with_graph
weights-mark c x =
    record {
      end = refl;
      original = refl;
      at = refl;
      virtual = refl;
      edges = refl;
      vertices = refl;
      sides = refl;
      nodes = refl;
      node_limit = refl;
      store_limit = refl;
      active = refl;
    }

weights-fold : (c : State) (ps : List EdgeWeight) → OnlyWeights c (fold reweigh c ps)
unfolding fold
weights-fold c [] = weights-none c
weights-fold c (p ∷ ps) = weights-then (weights-one c p) (weights-fold (reweigh c p) ps)

pub only-weights : (c : State) (ps : List EdgeWeight) → OnlyWeights c (reweighed c ps)
unfolding reweighed
only-weights c [] = weights-none c
only-weights c (p ∷ ps) = weights-then (weights-fold c (p ∷ ps)) (weights-mark (fold reweigh c (p ∷ ps)) 1)

pub shape-weights : {c d : State} → OnlyWeights c d → Shape c → Shape d
shape-weights p z =
    record {
      end = rw (p.end, p.edges) z.end;
      original = rw (p.original, p.edges) z.original;
      at = rw (p.at, p.virtual) z.at;
      defect = rw (p.vertices, p.virtual) z.defect;
      vertex_holder = rw (p.vertices, p.virtual) z.vertex_holder;
      vertex_grandson = rw (p.vertices, p.virtual) z.vertex_grandson;
      growth = rw (p.sides, p.end) z.growth;
      holder = rw (p.sides, p.end) z.holder;
      grandson = rw (p.sides, p.end) z.grandson;
      class = rw p.nodes z.class;
      parent = rw p.nodes z.parent;
      dual = rw p.nodes z.dual;
      boundary = rw p.nodes z.boundary;
      overgrown = rw p.nodes z.overgrown;
    }

-- ---- the weights stay in range, and the mark a flag

abbrev WeightsIn : State → Type 0
WeightsIn c = (e : ℕ) → slice_index c.graph.weight e ≤ weight_limit

set-in : (l : List ℕ) (i x e : ℕ) → slice_index l e ≤ weight_limit → x ≤ weight_limit → slice_index (slice_set l i x) e ≤ weight_limit
set-in l i x e h k =
    elim
    (dec_eq e i) [
      | no ne ↦ rw (get_or-set_other l i e x 0 ne) h
      | yes q ↦ elim
          (dec_lt i (length l)) [
            | yes b ↦ rw (q, get_or-set_same l i x 0 b) k
            | no b ↦ rw (set_out l i x (omega arith)) h
          ]
    ]

one_in : (c : State) (p : EdgeWeight) → WeightsIn c → weight_in_range p ≡ true → WeightsIn (reweigh c p)
unfolding reweigh with_edge_weight with_graph weight_in_range
one_in c p h k e = set-in c.graph.weight p.edge p.weight e (h e) (leb-true _ _ k)

fold-in : (c : State) (ps : List EdgeWeight) → WeightsIn c → all weight_in_range ps ≡ true → WeightsIn (fold reweigh c ps)
unfolding fold
fold-in c [] h k = h
fold-in c (p ∷ ps) h k = fold-in (reweigh c p) ps (one_in c p h (all_first weight_in_range p ps k)) (all_others weight_in_range p ps k)

pub reweighed-in : (c : State) (ps : List EdgeWeight) → WeightsIn c → all weight_in_range ps ≡ true → WeightsIn (reweighed c ps)
unfolding reweighed with_reweighted with_graph
reweighed-in c [] h k = h
reweighed-in c (p ∷ ps) h k = fold-in c (p ∷ ps) h k

pub reweighed-mark : (c : State) (ps : List EdgeWeight) → c.graph.reweighted ≤ 1 → (reweighed c ps).graph.reweighted ≤ 1
unfolding reweighed with_reweighted with_graph
reweighed-mark c [] h = h
reweighed-mark c (p ∷ ps) h = omega arith

-- ---- accepted

pub record ModifierAccepted (c : State) (ps : List EdgeWeight) : Type 0 where
  pub edges : all (names_edge c) ps ≡ true
  pub weights : all weight_in_range ps ≡ true
  pub empty : node_count c ≡ 0
  pub free : c.graph.reweighted ≡ 0

pub modifier-accepted : (c : State) (ps : List EdgeWeight) → modifier_refusal c ps ≡ 0 → ModifierAccepted c ps
unfolding modifier_refusal weights_bound
modifier-accepted c ps h =
    let p₁ = passed (not (all (names_edge c) ps)) 2 _ h in
    let p₂ = passed (not (all weight_in_range ps)) 3 _ p₁.1 in
    let p₃ = passed (not (node_count c == 0) || not (c.graph.reweighted == 0)) 15 _ p₂.1 in
    let n = not (node_count c == 0) in
    let m = not (c.graph.reweighted == 0) in
    record {
      edges = not-false _ p₁.0;
      weights = not-false _ p₂.0;
      empty = eqb-true _ _ (not-false _ (or-neither-left n m p₃.0));
      free = eqb-true _ _ (not-false _ (or-neither-right n m p₃.0));
    }
