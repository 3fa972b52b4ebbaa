-- The clusters of a state while node n is prepared, and views that are read off equal lists.
use Rattle.std.specs.Prelude.{ℕ, ◌<◌, ◌≡◌, ◌≢◌, List, get_or}
use Rattle.std.proofs.Math.Decide.{ℕ_discrete as dec_eq}
use Rattle.std.proofs.Math.Logic.{by_cases}
use Rattle.graph.specs.Basic.{member}
use Rattle.graph.specs.State.{State, Overgrown, node_count, parent_of, growth_at, holder_at, vertex_holder_at, defect_at}
use Rattle.pass.specs.Work.{Work}
use Rattle.reachable.specs.Cluster.{View, NodeView, Global}
use Rattle.reachable.specs.Invariant.{BoundaryHeld, Labels, side_graph_of, DefectNodes, view_of, NodeInvariantOf, Clusters}

-- the clusters of a state, where node n may list free sides
pub record ClustersBut (n : ℕ) (c : State) (k : Labels) : Type 0 where
  pub global : Global (side_graph_of c.graph) (view_of c k)
  pub node : (m : ℕ) → m < node_count c → parent_of c m ≡ 0 → NodeInvariantOf c k m
  pub defect-nodes : DefectNodes c k
  pub boundary-held : (m : ℕ) → m < node_count c → parent_of c m ≡ 0 → m ≢ n → BoundaryHeld c m

pub clusters-but : (n : ℕ) {c : State} {k : Labels} → Clusters c k → ClustersBut n c k
clusters-but n h = record { global = h.global; node = h.node; defect-nodes = h.defect-nodes; boundary-held = λ m b o ne. h.boundary-held m b o }

pub clusters-all : {n : ℕ} {c : State} {k : Labels} → ClustersBut n c k → BoundaryHeld c n → Clusters c k
clusters-all {n} {c} h t =
    record {
      global = h.global;
      node = h.node;
      defect-nodes = h.defect-nodes;
      boundary-held = λ m b o. by_cases (dec_eq m n) (λ e. rw e t) (λ e. h.boundary-held m b o e);
    }

-- ---- views that are read off equal lists

pub view-same : (k : Labels) (d : State) (h vh gr df : List ℕ) → d.sides.holder ≡ h → d.vertices.vertex_holder ≡ vh
    → d.sides.growth ≡ gr → d.vertices.defect ≡ df
    → view_of d k
    ≡ record {
      holder = λ t. get_or h t 0;
      vertex_holder = λ u. get_or vh u 0;
      growth = λ t. get_or gr t 0;
      defect = λ u. get_or df u 0;
      depth = k.depth;
      rank = k.rank;
      owner = k.owner;
      next_rank = k.next_rank;
    }
view-same k d h vh gr df e₁ e₂ e₃ e₄ = both_by d.sides.holder d.vertices.vertex_holder d.sides.growth d.vertices.defect h vh gr df e₁ e₂ e₃ e₄
  where
    by : List ℕ → List ℕ → List ℕ → List ℕ → View
    by a b x y =
        record {
          holder = λ t. get_or a t 0;
          vertex_holder = λ u. get_or b u 0;
          growth = λ t. get_or x t 0;
          defect = λ u. get_or y u 0;
          depth = k.depth;
          rank = k.rank;
          owner = k.owner;
          next_rank = k.next_rank;
        }

    both_by : (a b x y a' b' x' y' : List ℕ) → a ≡ a' → b ≡ b' → x ≡ x' → y ≡ y' → by a b x y ≡ by a' b' x' y'
    both_by a b x y a' b' x' y' e₁ e₂ e₃ e₄ = cc

pub node-view-same : {a a' : List ℕ} {b b' : List Overgrown} {x x' y y' : ℕ} → a ≡ a' → b ≡ b' → x ≡ x' → y ≡ y'
    → ◌≡◌ {A = NodeView} (record { listed = λ s. member s a; stack = b; base = x; dual = y })
    (record { listed = λ s. member s a'; stack = b'; base = x'; dual = y' })
node-view-same {a} {a'} {b} {b'} {x} {x'} {y} {y'} e₁ e₂ e₃ e₄ = by-cc a a' b b' x x' y y' e₁ e₂ e₃ e₄
  where
    by : List ℕ → List Overgrown → ℕ → ℕ → NodeView
    by a b x y = record { listed = λ s. member s a; stack = b; base = x; dual = y }

    by-cc : (a a' : List ℕ) (b b' : List Overgrown) (x x' y y' : ℕ) → a ≡ a' → b ≡ b' → x ≡ x' → y ≡ y' → by a b x y ≡ by a' b' x' y'
    by-cc a a' b b' x x' y y' e₁ e₂ e₃ e₄ = cc

-- ---- while a pass runs

-- the sides and vertices that work on state c has at hand, with the labels k
abbrev pub view_during : State → Labels → Work → View
view_during c k w =
    record {
      holder = holder_at w.state;
      vertex_holder = vertex_holder_at w.state;
      growth = growth_at c;
      defect = defect_at c;
      depth = k.depth;
      rank = k.rank;
      owner = k.owner;
      next_rank = k.next_rank;
    }
