-- A blossom is inserted: other blossoms agree with their snapshots as before, and the new one with the state in which its members are prepared.
use Rattle.std.specs.Prelude.{ℕ, ◌+◌, ◌<◌, ◌≡◌, refl, ◌⊎◌, true, false, List, [], get_or}
use Rattle.std.proofs.Common.{arith, sym, ap, ◌∙◌, inl, inr}
use Rattle.std.proofs.Math.Decide.{dec_lt}
use Rattle.std.proofs.Math.Logic.{by_cases}
use Rattle.graph.specs.Basic.{member}
use Rattle.graph.specs.State.{grandson_at, vertex_grandson_at, Vertices, State, Graph, node_count, end_at, holder_at, parent_of, dual_of, boundary_of}
use Rattle.graph.specs.laws.Members.{by-test, clash}
use Rattle.calls.proofs.laws.Accepted.{BlossomAccepted}
use Rattle.reachable.specs.Invariant.{side_graph_of, view_of, Invariant}
use Rattle.reachable.specs.laws.invariant.Frame.{Frame}
use Rattle.reachable.specs.laws.invariant.TakenVertex.{update_same, update_other}
use Rattle.reachable.specs.laws.insert.JoinedLists.{joined_lists, FromList, from_list, in-lists}
use Rattle.reachable.specs.laws.insert.Circle.{Members, CirclePreparing}
use Rattle.reachable.specs.laws.insert.BlossomLabels.{radius_of, radius_sum, shifted-depth-in, blossom_labels}
use Rattle.reachable.specs.laws.insert.BlossomState.{BlossomMade}
use Rattle.reachable.specs.laws.insert.Blossom.{numbers, ms, kept-vertex, not-joined, new-node-side, no-vertex, vertex-holder-eq, defect-eq, growth-eq}
use Rattle.reachable.specs.Past.{Snapshot, Tops, Under, MemberListed, Agreement}
use Rattle.reachable.specs.laws.past.Still.{Apart}
use Rattle.reachable.specs.laws.past.Tops.{top-inside}
use Rattle.reachable.specs.laws.past.BlossomTops.{new_top, new-top-in, new-top-off, top-beyond, top-circle, in-new}

module _ (c : State) (g : Invariant c) (x : ℕ) (circle : List ℕ) (ok : BlossomAccepted c x circle) (ready made : State)
    (prepared : CirclePreparing circle c ready []) (made_by : BlossomMade c x circle ready made) (top : ℕ → ℕ)
    (tops : Tops (record { state = ready; labels = prepared.labels; top = top })) where
  abbrev before : Snapshot
  before = record { state = ready; labels = prepared.labels; top = top }

  abbrev after : Snapshot
  after = record { state = made; labels = blossom_labels ready prepared.labels circle (node_count c); top = new_top top circle (node_count c) }

  cs : Members circle c ready prepared.labels
  cs = ms c g x circle ok ready made prepared made_by

  end-eq : (t : ℕ) → end_at made t ≡ end_at ready t
  end-eq t = ap (λ (y : Graph). get_or y.end t 0) made_by.made-graph

  grandson-eq : (t : ℕ) → grandson_at made t ≡ grandson_at ready t
  grandson-eq t = ap (λ (l : List ℕ). get_or l t 0) made_by.made-grandson

  vertex-grandson-eq : (u : ℕ) → vertex_grandson_at made u ≡ vertex_grandson_at ready u
  vertex-grandson-eq u = ap (λ (y : Vertices). get_or y.vertex_grandson u 0) made_by.made-vertices

  -- whose parent is the new number is a member
  of-new : (m : ℕ) → parent_of made m ≡ node_count c + 1 → (m < node_count c) × (member m circle ≡ true)
  of-new = in-new c g x circle ok ready made prepared made_by top tops

  own-top : (m : ℕ) → member m circle ≡ true → top m ≡ m
  own-top = top-circle c g x circle ok ready made prepared made_by top tops

  -- ---- another blossom

  module _ (q : ℕ) (b : q < node_count c) (o : parent_of ready q ≡ 0) (off : member q circle ≡ false) where
    not-member : (m : ℕ) → top m ≡ q → member m circle ≡ false
    not-member m e = by-test (member m circle) (λ h. let y : m ≡ q = sym (own-top m h) ∙ e in clash (member q circle) (rw y at h) off) (λ h. h)

    in_c : (m : ℕ) → top m ≡ q → m < node_count c
    in_c m e = omega (arith, top-inside before prepared.numbers.shape tops m q (omega (arith, cs.lists.count)) e, cs.lists.count)

    frame : (m : ℕ) → top m ≡ q
        → Frame (side_graph_of ready.graph) (view_of ready prepared.labels) (view_of made (blossom_labels ready prepared.labels circle (node_count c))) m
    frame m e = record {
      holder = λ t h. made_by.side-off t (not-joined c g x circle ok ready made prepared made_by m (not-member m e) t h) ∙ h;
      holder-back = λ t h.
          by-test (member t (joined_lists ready circle)) (λ y. absurd (omega (arith, made_by.side-in t y, in_c m e)))
          (λ y. sym (made_by.side-off t y) ∙ h);
      vertex_holder = λ u h. vertex-holder-eq c g x circle ok ready made prepared made_by u ∙ h;
      vertex-holder-back = λ u h. sym (vertex-holder-eq c g x circle ok ready made prepared made_by u) ∙ h;
      growth = λ t h. growth-eq c g x circle ok ready made prepared made_by t;
      end = λ t h. kept-vertex c g x circle ok ready made prepared made_by (end_at ready t) q (tops.side t m h ∙ e) off;
      vertex = λ u h. kept-vertex c g x circle ok ready made prepared made_by u q (tops.vertex u m h ∙ e) off;
    }

    pub apart : Apart before after q
    apart = record {
      graph = made_by.made-graph;
      outer = o;
      outer-after = made_by.parent-off q b off ∙ o;
      top = λ m e. new-top-off top circle (node_count c) m (rw e off) ∙ e;
      top_back = λ m e.
          by-test (member (top m) circle)
          (λ h. absurd (omega (arith, new-top-in top circle (node_count c) m h)))
          (λ h. sym (new-top-off top circle (node_count c) m h) ∙ e);
      class = λ m e. made_by.class-old m (in_c m e);
      dual = λ m e. made_by.dual-old m (in_c m e);
      boundary = λ m e. made_by.boundary-old m (in_c m e);
      overgrown = λ m e. made_by.overgrown-old m (in_c m e);
      parent = λ m e. made_by.parent-off m (in_c m e) (not-member m e);
      frame = frame;
      base = unfold blossom_labels in (update_other prepared.labels.base (node_count c) (radius_sum ready prepared.labels circle) q (λ e. omega arith));
      grandson = λ m t e h. grandson-eq t;
      vertex-grandson = λ m u e h. vertex-grandson-eq u;
    }

  -- ---- the new blossom

  under-circle : (m : ℕ) → Under after (node_count c) m → member (top m) circle ≡ true
  under-circle m u =
      by-test (member (top m) circle) (λ h. h)
      (λ h.
      let e : top m ≡ node_count c = sym (new-top-off top circle (node_count c) m h) ∙ u.top in
      by_cases (dec_lt m (node_count c))
      (λ a. absurd (omega (arith, tops.inside m (rw cs.lists.count a), cs.lists.count)))
      (λ a. absurd (u.other (sym (top-beyond c g x circle ok ready made prepared made_by top tops m (omega arith)) ∙ e))))

  under-inside : (m : ℕ) → Under after (node_count c) m → m < node_count ready
  under-inside m u = top-inside before prepared.numbers.shape tops m (top m) (cs.lists.inside (top m) (under-circle m u)) refl

  under-c : (m : ℕ) → Under after (node_count c) m → m < node_count c
  under-c m u = omega (arith, under-inside m u, cs.lists.count)

  new-side : (m t : ℕ) → Under after (node_count c) m → holder_at ready t ≡ m + 1
      → (holder_at made t ≡ m + 1) ⊎ ((parent_of made m ≡ node_count c + 1) × (member t (boundary_of made m) ≡ true))
  new-side m t u h =
      by-test (member t (joined_lists ready circle))
      (λ y.
      let r : FromList ready circle t = from_list ready circle t y in
      let e : r.node ≡ m = omega (arith, cs.lists.boundary-held r.node r.member_of t r.listed) in
      let l : member t (boundary_of ready m) ≡ true = rw e at r.listed in
      inr (made_by.parent_in m (under-c m u) (rw e at r.member_of), rw (made_by.boundary-old m (under-c m u)) l))
      (λ y. inl (made_by.side-off t y ∙ h))

  was-listed : (m t : ℕ) → parent_of made m ≡ node_count c + 1 → member t (boundary_of made m) ≡ true → member t (boundary_of ready m) ≡ true
  was-listed m t e l = rw (made_by.boundary-old m (of-new m e).0) at l

  new-level : (m t : ℕ) → parent_of made m ≡ node_count c + 1 → member t (boundary_of made m) ≡ true
      → (blossom_labels ready prepared.labels circle (node_count c)).depth (end_at made t) + (prepared.labels.base m + dual_of made m)
      ≡ prepared.labels.depth (end_at made t) + (blossom_labels ready prepared.labels circle (node_count c)).base (node_count c)
  unfolding blossom_labels radius_of
  new-level m t e l =
      let i = of-new m e in
      let own : prepared.labels.owner (end_at ready t) ≡ m = tops.side t m (cs.lists.boundary-held m i.1 t (was-listed m t e l)) ∙ own-top m i.1 in
      rw (end-eq t, made_by.dual-old m i.0, update_same prepared.labels.base (node_count c) (radius_sum ready prepared.labels circle))
      (shifted-depth-in ready prepared.labels circle (node_count c) (end_at ready t) m own i.1)

  new-top-back : (m : ℕ) → parent_of made (top m) ≡ node_count c + 1 → new_top top circle (node_count c) m ≡ node_count c
  new-top-back m e = new-top-in top circle (node_count c) m (of-new (top m) e).1

  new-own : (t : ℕ) → holder_at made t ≡ node_count c + 1 → MemberListed made (node_count c) t
  new-own t h =
      let r : FromList ready circle t = from_list ready circle t (new-node-side c g x circle ok ready made prepared made_by t h) in
      let b : r.node < node_count c = ok.inside r.node r.member_of in
      record { node = r.node; member_of = made_by.parent_in r.node b r.member_of; listed = rw (made_by.boundary-old r.node b) r.listed }

  pub new-agreement : Agreement after (node_count c) before
  new-agreement = record {
    graph = sym made_by.made-graph;
    new = omega (arith, cs.lists.count);
    inside = under-inside;
    class = λ m u. sym (made_by.class-old m (under-c m u));
    dual = λ m u. sym (made_by.dual-old m (under-c m u));
    boundary = λ m u. sym (made_by.boundary-old m (under-c m u));
    overgrown = λ m u. sym (made_by.overgrown-old m (under-c m u));
    member-outer = λ m e. cs.lists.outer m (of-new m e).1;
    deeper = λ m u e. sym (made_by.parent-off m (under-c m u) (by-test (member m circle) (λ h. absurd (e (made_by.parent_in m (under-c m u) h))) (λ h. h)));
    member-top = λ m u. made_by.parent_in (top m) (ok.inside (top m) (under-circle m u)) (under-circle m u);
    top_back = new-top-back;
    vertex = λ m u y h. vertex-holder-eq c g x circle ok ready made prepared made_by u ∙ h;
    vertex-back = λ m u y h. sym (vertex-holder-eq c g x circle ok ready made prepared made_by u) ∙ h;
    vertex-defect = λ m u y h. defect-eq c g x circle ok ready made prepared made_by u;
    side = new-side;
    side-back = λ m t u h.
        by-test (member t (joined_lists ready circle)) (λ y. absurd (u.other (omega (arith, made_by.side-in t y))))
        (λ y. sym (made_by.side-off t y) ∙ h);
    growth = λ m t u h. sym (growth-eq c g x circle ok ready made prepared made_by t);
    grandson = λ m t u h. sym (grandson-eq t);
    joined-grandson = λ m t e l. sym (grandson-eq t);
    vertex-grandson = λ m u y h. sym (vertex-grandson-eq u);
    end-defect = λ m t u h. defect-eq c g x circle ok ready made prepared made_by (end_at made t);
    joined = λ m t e l. made_by.side-in t (in-lists ready circle t m (of-new m e).1 (was-listed m t e l));
    joined-vertex = λ m t e l h. no-vertex c g x circle ok ready made prepared made_by (end_at made t) h;
    level = new-level;
    own = λ t h. inr (new-own t h);
  }
