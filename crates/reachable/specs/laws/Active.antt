-- The invariant with another active list: a node joins, or the list is renewed.
use Rattle.std.specs.Prelude.{ℕ, ◌<◌, ◌≡◌, ◌≢◌, true, ◌&&◌, eqb, length}
use Rattle.std.proofs.Math.Path.{refl}
use Rattle.std.proofs.Math.Logic.{by_cases}
use Rattle.std.proofs.Math.Decide.{ℕ_discrete as dec_eq}
use Rattle.std.proofs.Math.Bool.{not}
use mathlib.Core.List.{List}
use Rattle.graph.specs.Basic.{member}
use Rattle.graph.specs.State.{State, node_count, grow_state_of, parent_of, with_active, stay}
use Rattle.graph.specs.Sound.{active_sound}
use Rattle.graph.specs.Active.{joined_to, join_active, activated, renewed, ActiveAll}
use Rattle.std.proofs.Common.{ne_eqb}
use Rattle.graph.specs.laws.State.{if-both, if-cases}
use Rattle.graph.specs.laws.Members.{clash}
use Rattle.graph.specs.laws.Shape.{sound-active}
use Rattle.graph.specs.laws.Active.{shape-active, with-active-sound, join-sound, activated-sound, renewed-sound, renewed-all, joined_in, joined_keeps}
use Rattle.reachable.specs.laws.state.Live.{live-active}
use Rattle.reachable.specs.Invariant.{Labels, DefectNode, Clusters, InnerStay, SoundClusters, Invariant}

-- other grow states x and another active list l
abbrev pub with_states : State → List ℕ → List ℕ → State
with_states c x l = record {
  graph = c.graph;
  vertices = c.vertices;
  sides = c.sides;
  nodes = record {
    class = c.nodes.class;
    grow_state = x;
    parent = c.nodes.parent;
    dual = c.nodes.dual;
    boundary = c.nodes.boundary;
    overgrown = c.nodes.overgrown;
  };
  node_limit = c.node_limit;
  store_limit = c.store_limit;
  active = l;
}

-- no cluster knows of them
pub states-clusters : (c : State) (x l : List ℕ) (k : Labels) → length x ≡ node_count c → Clusters c k → Clusters (with_states c x l) k
states-clusters c x l k e h = record {
  global = h.global;
  node = λ m b o. h.node m (rw e at b) o;
  defect-nodes = record {
    virtuals = h.defect-nodes.virtuals;
    defect-node = λ m b o u p.
        let r : DefectNode c k m u = h.defect-nodes.defect-node m (rw e at b) o u p in
        record { held = r.held; defect = r.defect; depth = r.depth; base = r.base };
    no_other = λ m b. h.defect-nodes.no_other m (rw e at b);
  };
  boundary-held = λ m b o. h.boundary-held m (rw e at b) o;
}

pub sound-clusters-of : {c : State} → Invariant c → SoundClusters c
sound-clusters-of g = record { shape = g.shape; one = g.one; sounds = g.sounds; labels = g.labels; clusters = g.clusters; fits = g.fits; live = g.live }

-- the list l instead: nodes, each once, and every node that is not in Stay
pub active-invariant : (c : State) (l : List ℕ) → SoundClusters c → active_sound (with_active c l) ≡ true
    → ((n : ℕ) → n < node_count c → grow_state_of c n ≢ stay → member n l ≡ true) → InnerStay c → Invariant (with_active c l)
active-invariant c l g s f i = record {
  shape = shape-active c l g.shape;
  one = unfold with_active in g.one;
  sounds = with-active-sound c l g.sounds s;
  labels = g.labels;
  clusters = unfold with_active in (states-clusters c c.nodes.grow_state l g.labels refl g.clusters);
  fits = unfold with_active in g.fits;
  live = live-active c l g.live;
  active-all = unfold with_active in f;
  inner-stay = unfold with_active in i;
}

pub join-invariant : (c : State) → SoundClusters c → (n : ℕ) → n < node_count c
    → ((m : ℕ) → m < node_count c → grow_state_of c m ≢ stay → member m (joined_to c.active n) ≡ true) → InnerStay c → Invariant (join_active c n)
unfolding join_active
join-invariant c g n b f i = active-invariant c (joined_to c.active n) g (unfold join_active in (join-sound c n b (sound-active c g.sounds))) f i

pub activated-invariant : (c : State) → Invariant c → (n x : ℕ) → n < node_count c → Invariant (activated c n x)
unfolding activated
activated-invariant c g n x b =
    active-invariant c _ (sound-clusters-of g) (unfold activated in (activated-sound c n x b (sound-active c g.sounds)))
    (λ m h ne. if-both (λ (l : List ℕ). member m l ≡ true) (eqb (grow_state_of c n) stay && not (eqb x stay))
    (joined_keeps c.active n m (g.active-all m h ne)) (g.active-all m h ne))
    g.inner-stay

-- who is given another state than Stay stands in the list
pub activated-in : (c : State) → ActiveAll c → (n x : ℕ) → n < node_count c → x ≢ stay → member n (activated c n x).active ≡ true
unfolding activated with_active
activated-in c f n x b ne =
    if-cases (λ (l : List ℕ). member n l ≡ true) (eqb (grow_state_of c n) stay && not (eqb x stay))
    (λ e. joined_in c.active n)
    (λ e. f n b (λ z. clash _ (rw (z, ne_eqb x stay ne) refl) e))

pub renewed-invariant : (c : State) → Invariant c → Invariant (renewed c)
unfolding renewed
renewed-invariant c g =
    active-invariant c _ (sound-clusters-of g) (unfold renewed in (renewed-sound c (sound-active c g.sounds)))
    (unfold renewed with_active in (renewed-all c g.active-all)) g.inner-stay

-- who is not in Stay lies in no blossom
pub active-outer : (c : State) → Invariant c → (n : ℕ) → n < node_count c → grow_state_of c n ≢ stay → parent_of c n ≡ 0
active-outer c g n b ne = by_cases (dec_eq (parent_of c n) 0) (λ e. e) (λ e. absurd (ne (g.inner-stay n b e)))
