-- A state without nodes is blank, and the invariant holds of it whatever its weights are.
use Rattle.std.specs.Prelude.{ℕ, zero, suc, ◌≤◌, ◌<◌, ◌≡◌, refl, true, length, get_or, replicate}
use Rattle.std.proofs.Common.{arith, sym, ◌∙◌, inl}
use Rattle.std.proofs.Math.Decide.{ℕ_discrete as dec_eq, dec_lt}
use Rattle.std.proofs.Math.Path.{ap}
use Rattle.std.proofs.Math.Logic.{by_cases}
use mathlib.Core.List.{List, [], ◌∷◌}
use Rattle.std.proofs.Math.ListN.{get_or-eq_default}
use Rattle.graph.specs.Basic.{member}
use Rattle.graph.specs.State.{State, Graph, Vertices, Sides, Nodes, NodeClass, Overgrown, opposite, vertex_count, side_count, node_count, holder_at, vertex_holder_at, defect_at}
use Rattle.graph.specs.Open.{weight_limit, blank_state}
use Rattle.graph.specs.Sound.{is_removed, sound}
use Rattle.graph.specs.Shape.{Shape}
use Rattle.graph.specs.laws.Active.{active-below}
use Rattle.graph.specs.laws.Members.{member-head}
use Rattle.graph.specs.laws.Opened.{get_d-zeros, SoundGraph, sound-graph, blank-sound}
use Rattle.graph.specs.laws.Shape.{blank-shape, sound-active}
use Rattle.graph.specs.laws.Sounds.{Sound, sound-facts}
use Rattle.calls.specs.Erasures.{EdgeWeight, reweighed}
use Rattle.calls.proofs.laws.Erasures.{OnlyWeights, only-weights, reweighed-in, reweighed-mark, ModifierAccepted}
use Rattle.reachable.specs.Invariant.{Labels, Clusters, Live, Invariant, NodeFits}

-- ---- a state without nodes

unfoldable pub initial_labels : Labels
initial_labels = record { depth = λ u. 0; rank = λ u. 0; owner = λ u. 0; next_rank = 1; base = λ n. 0 }

pub blank-clusters : (g : Graph) (n l : ℕ) → Clusters (blank_state g n l) initial_labels
unfolding blank_state initial_labels
blank-clusters g n l = record {
  global = record {
    side-below = λ t e. absurd (e (get_d-zeros (length g.end) t));
    held-side = λ t e. absurd (e (get_d-zeros (length g.end) t));
    held-vertex = λ t b e. absurd (e (get_d-zeros (length g.virtual) (get_or g.end t 0)));
    free = λ t e. get_d-zeros (length g.end) t;
    defects = λ u e. absurd (e (get_d-zeros (length g.virtual) u));
    ranks = λ u. omega arith;
    within-weight = λ t b. inl (rw (get_d-zeros (length g.end) t, get_d-zeros (length g.end) (opposite t)) (omega arith));
    differ = λ t b. rw (get_d-zeros (length g.end) t) (omega arith);
  };
  node = λ m b. absurd (omega arith);
  defect-nodes =
      record {
        virtuals = λ u e. get_d-zeros (length g.virtual) u;
        defect-node = λ m b. absurd (omega arith);
        no_other = λ m b. absurd (omega arith);
      };
  boundary-held = λ m b. absurd (omega arith);
}

pub blank-fits : (g : Graph) (n l m : ℕ) → m < node_count (blank_state g n l) → NodeFits (blank_state g n l) m
unfolding blank_state
blank-fits g n l m b = absurd (omega arith)

blank-live : (g : Graph) (n l : ℕ) → Live (blank_state g n l)
unfolding blank_state is_removed
blank-live g n l = record {
  emptied = λ m e. absurd (let w : ◌≡◌ {A = ℕ} 0 1 = cc in omega arith);
  side = λ t m e. refl;
  vertex = λ u m e. refl;
  parent = λ m j e. refl;
  first = λ m j e. absurd (let w : ◌≡◌ {A = ℕ} 0 1 = cc in omega arith);
}

pub blank-invariant : (g : Graph) (n l : ℕ) → Shape (blank_state g n l) → 1 ≤ length g.virtual
    → sound (blank_state g n l) ≡ true → Invariant (blank_state g n l)
blank-invariant g n l shape one sounds = record {
  shape = shape;
  one = unfold blank_state in one;
  sounds = sounds;
  labels = initial_labels;
  clusters = blank-clusters g n l;
  fits = blank-fits g n l;
  live = blank-live g n l;
  active-all = unfold blank_state in (λ m b. absurd (omega arith));
  inner-stay = unfold blank_state in (λ m b. absurd (omega arith));
}

-- ---- a state that the invariant holds of is blank where it has no node

zeros-are : (l : List ℕ) (n : ℕ) → length l ≡ n → ((i : ℕ) → i < n → ◌≡◌ {A = ℕ} (get_or l i 0) 0) → l ≡ replicate n 0
zeros-are [] zero h f = refl
zeros-are [] (suc n) h f = absurd (omega arith)
zeros-are (x ∷ l) zero h f = absurd (omega arith)
zeros-are (x ∷ l) (suc n) h f = rw (f zero (omega arith), ← zeros-are l n (omega arith) (λ i k. f (suc i) (omega arith)))

no-entry : {A : Type 0} (l : List A) → ◌≡◌ {A = ℕ} (length l) 0 → l ≡ []
no-entry [] h = refl
no-entry (x ∷ l) h = absurd (omega arith)

abbrev blank_vertices : ℕ → Vertices
blank_vertices v = record { defect = replicate v 0; vertex_holder = replicate v 0; vertex_grandson = replicate v 0 }

abbrev blank_sides : ℕ → Sides
blank_sides m = record { growth = replicate m 0; holder = replicate m 0; grandson = replicate m 0 }

abbrev blank_nodes : Nodes
blank_nodes = record { class = []; grow_state = []; parent = []; dual = []; boundary = []; overgrown = [] }

vertices-are : (x : Vertices) (v : ℕ) → x.defect ≡ replicate v 0 → x.vertex_holder ≡ replicate v 0
    → x.vertex_grandson ≡ replicate v 0 → x ≡ blank_vertices v
vertices-are x v a b d =
    ap (λ (l : List ℕ). record { defect = l; vertex_holder = x.vertex_holder; vertex_grandson = x.vertex_grandson }) a
    ∙ ap (λ (l : List ℕ). record { defect = replicate v 0; vertex_holder = l; vertex_grandson = x.vertex_grandson }) b
    ∙ ap (λ (l : List ℕ). record { defect = replicate v 0; vertex_holder = replicate v 0; vertex_grandson = l }) d

sides-are : (x : Sides) (m : ℕ) → x.growth ≡ replicate m 0 → x.holder ≡ replicate m 0 → x.grandson ≡ replicate m 0 → x ≡ blank_sides m
sides-are x m a b d =
    ap (λ (l : List ℕ). record { growth = l; holder = x.holder; grandson = x.grandson }) a
    ∙ ap (λ (l : List ℕ). record { growth = replicate m 0; holder = l; grandson = x.grandson }) b
    ∙ ap (λ (l : List ℕ). record { growth = replicate m 0; holder = replicate m 0; grandson = l }) d

nodes-are : (x : Nodes) → x.class ≡ [] → x.grow_state ≡ [] → x.parent ≡ [] → x.dual ≡ [] → x.boundary ≡ [] → x.overgrown ≡ [] → x ≡ blank_nodes
nodes-are x a b d e f g =
    ap (λ (l : List NodeClass). record {
      class = l;
      grow_state = x.grow_state;
      parent = x.parent;
      dual = x.dual;
      boundary = x.boundary;
      overgrown = x.overgrown;
    }) a
    ∙ ap (λ (l : List ℕ). record { class = []; grow_state = l; parent = x.parent; dual = x.dual; boundary = x.boundary; overgrown = x.overgrown }) b
    ∙ ap (λ (l : List ℕ). record { class = []; grow_state = []; parent = l; dual = x.dual; boundary = x.boundary; overgrown = x.overgrown }) d
    ∙ ap (λ (l : List ℕ). record { class = []; grow_state = []; parent = []; dual = l; boundary = x.boundary; overgrown = x.overgrown }) e
    ∙ ap (λ (l : List (List ℕ)). record { class = []; grow_state = []; parent = []; dual = []; boundary = l; overgrown = x.overgrown }) f
    ∙ ap (λ (l : List (List Overgrown)). record { class = []; grow_state = []; parent = []; dual = []; boundary = []; overgrown = l }) g

state-is : (c : State) {v : Vertices} {s : Sides} {n : Nodes} {l : List ℕ} → c.vertices ≡ v → c.sides ≡ s → c.nodes ≡ n → c.active ≡ l
    → c ≡ record { graph = c.graph; vertices = v; sides = s; nodes = n; node_limit = c.node_limit; store_limit = c.store_limit; active = l }
state-is c {v} {s} {n} {l} a b d e =
    ap (λ (x : Vertices). record {
      graph = c.graph;
      vertices = x;
      sides = c.sides;
      nodes = c.nodes;
      node_limit = c.node_limit;
      store_limit = c.store_limit;
      active = c.active;
    }) a
    ∙ ap (λ (x : Sides). record {
      graph = c.graph;
      vertices = v;
      sides = x;
      nodes = c.nodes;
      node_limit = c.node_limit;
      store_limit = c.store_limit;
      active = c.active;
    }) b
    ∙ ap (λ (x : Nodes). record {
      graph = c.graph;
      vertices = v;
      sides = s;
      nodes = x;
      node_limit = c.node_limit;
      store_limit = c.store_limit;
      active = c.active;
    }) d
    ∙ ap (λ (x : List ℕ). record { graph = c.graph; vertices = v; sides = s; nodes = n; node_limit = c.node_limit; store_limit = c.store_limit; active = x }) e

module _ (c : State) (g : Invariant c) (none : node_count c ≡ 0) where
  facts : Sound c
  facts = sound-facts c g.sounds

  no-holder : (t : ℕ) → t < side_count c → holder_at c t ≡ 0
  no-holder t b = omega (arith, (facts.side t b).holder, none)

  no-vertex-holder : (u : ℕ) → u < vertex_count c → vertex_holder_at c u ≡ 0
  no-vertex-holder u b = omega (arith, (facts.vertex u b).vertex_holder, none)

  no-defect : (u : ℕ) → u < vertex_count c → defect_at c u ≡ 0
  no-defect u b =
      by_cases (dec_eq (defect_at c u) 0) (λ e. e)
      (λ e. absurd (g.clusters.global.defects u e (no-vertex-holder u b)))

  empty-vertices : c.vertices ≡ blank_vertices (vertex_count c)
  empty-vertices =
      vertices-are c.vertices (vertex_count c) (zeros-are _ _ g.shape.defect no-defect)
      (zeros-are _ _ g.shape.vertex_holder no-vertex-holder)
      (zeros-are _ _ g.shape.vertex_grandson (λ u b. omega (arith, (facts.vertex u b).vertex_grandson, none)))

  empty-sides : c.sides ≡ blank_sides (side_count c)
  empty-sides =
      sides-are c.sides (side_count c) (zeros-are _ _ g.shape.growth (λ t b. g.clusters.global.free t (no-holder t b)))
      (zeros-are _ _ g.shape.holder no-holder)
      (zeros-are _ _ g.shape.grandson (λ t b. omega (arith, (facts.side t b).grandson, none)))

  empty-nodes : c.nodes ≡ blank_nodes
  empty-nodes =
      nodes-are c.nodes (no-entry _ (g.shape.class ∙ none)) (no-entry _ none) (no-entry _ (g.shape.parent ∙ none))
      (no-entry _ (g.shape.dual ∙ none)) (no-entry _ (g.shape.boundary ∙ none)) (no-entry _ (g.shape.overgrown ∙ none))

  empty-active : c.active ≡ []
  empty-active = go c.active (λ n m. omega (arith, active-below c (sound-active c g.sounds) n m, none))
    where
      go : (l : List ℕ) → ((n : ℕ) → member n l ≡ true → ⊥) → l ≡ []
      go [] f = refl
      go (x ∷ l) f = absurd (f x (member-head x l))

-- ---- another weight for some edges

module _ (c : State) (g : Invariant c) (pairs : List EdgeWeight) (a : ModifierAccepted c pairs) where
  abbrev changed : State
  changed = reweighed c pairs

  p : OnlyWeights c changed
  p = only-weights c pairs

  pub reweighed-blank : changed ≡ blank_state changed.graph changed.node_limit changed.store_limit
  unfolding blank_state
  reweighed-blank =
      state-is changed (p.vertices ∙ empty-vertices c g a.empty ∙ ap (λ (l : List ℕ). blank_vertices (length l)) (sym p.virtual))
      (p.sides ∙ empty-sides c g a.empty ∙ ap (λ (l : List ℕ). blank_sides (length l)) (sym p.end))
      (p.nodes ∙ empty-nodes c g a.empty) (p.active ∙ empty-active c g a.empty)

  weights-in : (e : ℕ) → get_or c.graph.weight e 0 ≤ weight_limit
  weights-in e =
      by_cases (dec_lt e (length c.graph.weight)) (λ b. (sound-graph c g.sounds).weight e b)
      (λ b. rw (get_or-eq_default c.graph.weight 0 (outside b)) (omega arith))
    where
      outside : (e < length c.graph.weight → ⊥) → length c.graph.weight ≤ e
      outside b = omega arith

  changed-graph : SoundGraph changed.graph
  changed-graph =
      let z = sound-graph c g.sounds in
      record {
        left = λ e b. rw (p.end, p.virtual) (z.left e (rw p.edges at b));
        right = λ e b. rw (p.end, p.virtual) (z.right e (rw p.edges at b));
        differ = λ e b. rw p.end (z.differ e (rw p.edges at b));
        weight = λ e b. reweighed-in c pairs weights-in a.weights e;
        original = λ e b. rw p.original (z.original e (rw p.edges at b));
        mark = reweighed-mark c pairs z.mark;
        virtual = λ v b. rw p.virtual (z.virtual v (rw p.virtual at b));
        sides = λ v b. rw (p.at, p.end) (z.sides v (rw p.virtual at b));
      }

  pub reweighed-invariant : Invariant (blank_state changed.graph changed.node_limit changed.store_limit)
  reweighed-invariant =
      blank-invariant changed.graph changed.node_limit changed.store_limit
      (blank-shape changed.graph _ _ (rw (p.end, p.edges) g.shape.end) (rw (p.original, p.edges) g.shape.original)
      (rw (p.at, p.virtual) g.shape.at))
      (rw p.virtual g.one) (blank-sound changed.graph _ _ changed-graph)
