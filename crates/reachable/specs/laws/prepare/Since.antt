-- Passes over node n leave alone what other nodes hold.
use Rattle.std.specs.Prelude.{ℕ, ◌≡◌, refl, ◌≢◌}
use Rattle.std.proofs.Common.{◌∙◌}
use Rattle.graph.specs.State.{State}
use Rattle.reachable.specs.Cluster.{SideGraph, View}
use Rattle.reachable.specs.Invariant.{Labels, side_graph_of, view_of}
use Rattle.reachable.specs.laws.invariant.Frame.{Same, Frame}

-- ---- frames, one after the other

same-trans : {x y z : View} {u : ℕ} → Same x y u → Same y z u → Same x z u
same-trans a b = record { defect = b.defect ∙ a.defect; depth = b.depth ∙ a.depth; rank = b.rank ∙ a.rank; owner = b.owner ∙ a.owner }

pub frame-trans : {q : SideGraph} {x y z : View} {m : ℕ} → Frame q x y m → Frame q y z m → Frame q x z m
frame-trans a b = record {
  holder = λ t h. b.holder t (a.holder t h);
  holder-back = λ t h. a.holder-back t (b.holder-back t h);
  vertex_holder = λ u h. b.vertex_holder u (a.vertex_holder u h);
  vertex-holder-back = λ u h. a.vertex-holder-back u (b.vertex-holder-back u h);
  growth = λ t h. b.growth t (a.holder t h) ∙ a.growth t h;
  end = λ t h. same-trans (a.end t h) (b.end t (a.holder t h));
  vertex = λ u h. same-trans (a.vertex u h) (b.vertex u (a.vertex_holder u h));
}

pub frame-refl : {q : SideGraph} {x : View} {m : ℕ} → Frame q x x m
frame-refl = record {
  holder = λ t h. h;
  holder-back = λ t h. h;
  vertex_holder = λ u h. h;
  vertex-holder-back = λ u h. h;
  growth = λ t h. refl;
  end = λ t h. record { defect = refl; depth = refl; rank = refl; owner = refl };
  vertex = λ u h. record { defect = refl; depth = refl; rank = refl; owner = refl };
}

-- since state b with labels i, passes over node n alone
pub record Since (n : ℕ) (b : State) (i : Labels) (c : State) (k : Labels) : Type 0 where
  pub graph : c.graph ≡ b.graph
  pub frame : (m : ℕ) → m ≢ n → Frame (side_graph_of b.graph) (view_of b i) (view_of c k) m
  pub base : k.base ≡ i.base

pub since_none : (n : ℕ) (b : State) (i : Labels) → Since n b i b i
since_none n b i = record { graph = refl; frame = λ m e. frame-refl; base = refl }

pub since-more : (n : ℕ) (b : State) (i : Labels) (c : State) (k : Labels) (d : State) (z : Labels) → Since n b i c k → d.graph ≡ c.graph
    → ((m : ℕ) → m ≢ n → Frame (side_graph_of c.graph) (view_of c k) (view_of d z) m) → z.base ≡ k.base → Since n b i d z
since-more n b i c k d z s g f e = record { graph = g ∙ s.graph; frame = λ m ne. frame-trans (s.frame m ne) (rw s.graph at (f m ne)); base = e ∙ s.base }
