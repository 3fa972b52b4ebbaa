-- The state with one more defect is sound, but for who holds what is listed.
use Rattle.std.specs.Prelude.{ℕ, ◌+◌, ◌-◌, ◌*◌, ◌≤◌, ◌<◌, ◌≡◌, refl, ◌⊎◌, true, [], ltb, length}
use native.Mathlib.Omega.{arith}
use Rattle.std.proofs.Math.Decide.{ℕ_discrete as dec_eq, dec_lt}
use Rattle.std.proofs.Common.{sym, ap, ◌∙◌, inl, inr}
use Rattle.std.proofs.Math.Logic.{⊎_elim, by_cases}
use borrow.Author.Tests.{le-leb, lt-ltb}
use Rattle.graph.specs.laws.Active.{active-kept}
use Rattle.graph.specs.Basic.{member, distinct}
use Rattle.graph.specs.State.{State, Graph, vertex_count, edge_count, side_count, node_count, grandson_at, vertex_holder_at, vertex_grandson_at, defect_at, sides_at, parent_of, overgrown_of}
use Rattle.graph.specs.laws.Members.{by-test, all_from, distinct-length}
use Rattle.graph.specs.Sound.{is_defect, stored_defect, entries}
use Rattle.graph.specs.laws.Shape.{sides-of-once}
use Rattle.graph.specs.Shape.{SoundSide, SoundVertex, SoundEdge}
use Rattle.calls.specs.Refuse.{entries_but}
use Rattle.calls.proofs.laws.Accepted.{DefectAccepted, store-room, entries_none}
use Rattle.reachable.specs.laws.state.GraphOk.{GraphOk}
use Rattle.reachable.specs.laws.state.Numbers.{numbers-graph-ok}
use Rattle.reachable.specs.Numbers.{SoundNumbers, ListsDistinct, NodeNumbers}
use Rattle.reachable.specs.laws.insert.NewNode.{class-moved, class-defect, over-moved, over-nil, parent-none, parent-moved}
use Rattle.reachable.specs.laws.insert.DefectState.{DefectMade}

module _ (c : State) (f : SoundNumbers c) (v x : ℕ) (ok : DefectAccepted c v x) (made : State) (p : DefectMade c v x made) where
  graph-ok : GraphOk c.graph
  graph-ok = numbers-graph-ok c f

  pub old-or-new : (m : ℕ) → m < node_count made → (m < node_count c) ⊎ (m ≡ node_count c)
  old-or-new m b = by_cases (dec_lt m (node_count c)) (λ a. inl a) (λ a. inr (omega (arith, p.made-count)))

  stored-new : stored_defect made (node_count c + 1) ≡ true
  unfolding stored_defect is_defect
  stored-new =
      let e : node_count c + 1 - 1 ≡ node_count c = omega arith in
      rw (le-leb 1 (node_count c + 1) (omega arith), le-leb (node_count c + 1) (node_count made) (omega (arith, p.made-count)), e, p.class-new)

  made-node : (m : ℕ) → m < node_count made → NodeNumbers made m
  made-node m b =
      ⊎_elim
      (λ (a : m < node_count c).
      let o : NodeNumbers c m = f.nodes m a in
      record {
        class = class-moved c made m m p.made-graph (p.class-old m a) o.class;
        grow_state = rw (p.grow-state-old m a) o.grow_state;
        parent = parent-moved c made m (p.parent-old m a) (omega (arith, p.made-count)) o.parent;
        dual = rw (p.dual-old m a) o.dual;
        boundary = rw (p.boundary-old m a, p.made-graph) o.boundary;
        overgrown = over-moved c made p.made-graph (overgrown_of made m) (rw (p.overgrown-old m a) o.overgrown);
      })
      (λ (a : m ≡ node_count c).
      rw a (record {
        class = class-defect made (node_count c) v p.class-new (rw p.made-graph ok.inside);
        grow_state = rw p.grow-state-new ok.grow_state;
        parent = parent-none made (node_count c) p.parent-new;
        dual = rw p.dual-new (omega arith);
        boundary = rw (p.boundary-new, p.made-graph)
            (all_from (λ s. ltb s (side_count c)) (sides_at c v) (λ t m. lt-ltb t (side_count c) (graph-ok.at_out v t m).0));
        overgrown = rw p.overgrown-new (over-nil made);
      }))
      (old-or-new m b)

  made-once : (m : ℕ) → m < node_count made → parent_of made m ≡ 0 → ListsDistinct made m
  unfolding distinct
  made-once m b o =
      ⊎_elim
      (λ (a : m < node_count c). let y : ListsDistinct c m = f.once m a (sym (p.parent-old m a) ∙ o) in
      record { sides = rw (p.boundary-old m a) y.sides; vertices = rw (p.overgrown-old m a) y.vertices })
      (λ (a : m ≡ node_count c).
      record {
        sides = rw (a, p.boundary-new) (rw (f.vertices v ok.inside).sides (sides-of-once c.graph.end v));
        vertices = rw (a, p.overgrown-new) refl;
      })
      (old-or-new m b)

  counts : (vertex_count made ≡ vertex_count c) × (side_count made ≡ side_count c) × (edge_count made ≡ edge_count c)
  counts = (
    ap (λ (y : Graph). length y.virtual) p.made-graph,
    ap (λ (y : Graph). length y.end) p.made-graph,
    ap (λ (y : Graph). length y.weight) p.made-graph,
  )

  made-vertex : (u : ℕ) → u < vertex_count made → SoundVertex made u
  made-vertex u b =
      let o : SoundVertex c u = f.vertices u (rw counts.0 at b) in
      let k : (defect_at made u ≤ 1) × (vertex_holder_at made u ≤ node_count made) × (vertex_grandson_at made u ≤ node_count made) =
      by_cases (dec_eq u v)
      (λ a. rw a (
        omega (arith, p.defect-at),
        omega (arith, p.vertex-holder-at, p.made-count),
        omega (arith, p.vertex-grandson-at, p.made-count),
      ))
      (λ a. (
        rw (p.defect-off u a) o.defect,
        omega (arith, p.vertex-holder-off u a, o.vertex_holder, p.made-count),
        omega (arith, p.vertex-grandson-off u a, o.vertex_grandson, p.made-count),
      )) in
      record { virtual = rw p.made-graph o.virtual; defect = k.0; vertex_holder = k.1; vertex_grandson = k.2; sides = rw p.made-graph o.sides }

  made-side : (s : ℕ) → s < side_count made → SoundSide made s
  made-side s b =
      let o : SoundSide c s = f.sides s (rw counts.1 at b) in
      by-test (member s (sides_at c v))
      (λ m.
      let y = p.side-in s m in
      record {
        growth = rw p.made-growth o.growth;
        holder = omega (arith, y.0, p.made-count);
        grandson = omega (arith, y.1, p.made-count);
        defect = λ e. rw y.1 stored-new;
      })
      (λ m.
      let y = p.side-off s m in
      record {
        growth = rw p.made-growth o.growth;
        holder = omega (arith, y.0, o.holder, p.made-count);
        grandson = omega (arith, y.1, o.grandson, p.made-count);
        defect = λ e. rw y.1 (p.stored-old (grandson_at c s) (o.defect (λ q. e (y.0 ∙ q))));
      })

  pub made-numbers : SoundNumbers made
  made-numbers = record {
    shape = p.made-shape;
    one = rw counts.0 f.one;
    count = omega (arith, p.made-count, p.made-limit, ok.count);
    edges = λ e b. let y : SoundEdge c e = f.edges e (rw counts.2 at b) in
        record {
          left = rw p.made-graph y.left;
          right = rw p.made-graph y.right;
          differ = rw p.made-graph y.differ;
          weight = rw p.made-graph y.weight;
          original = rw p.made-graph y.original;
        };
    vertices = made-vertex;
    sides = made-side;
    nodes = made-node;
    once = made-once;
    active = active-kept c made p.made-active (omega (arith, p.made-count)) f.active;
    mark = rw p.made-graph f.mark;
  }

  pub made-entries : entries made ≤ made.store_limit
  made-entries =
      let d : entries_but c [] + 1 * (side_count c + vertex_count c) ≤ c.store_limit = store-room c [] 1 ok.room in
      let e : entries_but c [] ≡ entries c = entries_none c in
      let l : length (sides_at c v) ≤ side_count c =
      distinct-length (side_count c) (sides_at c v) (rw (f.vertices v ok.inside).sides (sides-of-once c.graph.end v))
      (all_from (λ s. ltb s (side_count c)) (sides_at c v) (λ t m. lt-ltb t (side_count c) (graph-ok.at_out v t m).0)) in
      omega (arith, p.made-store, p.made-total)
