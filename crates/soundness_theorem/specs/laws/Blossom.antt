-- Insertion of a blossom leaves a sound state sound, if the preparation of each member passes the test.
use Rattle.std.specs.Prelude.{ℕ, ◌+◌, ◌<◌, ◌≡◌, refl}
use Rattle.std.proofs.Common.{arith, ◌∙◌, ⊎_elim}
use Rattle.std.proofs.Math.Path.{ap}
use Rattle.std.proofs.Math.Bool.{true, false}
use mathlib.Core.List.{List, [], ◌∷◌}
use Rattle.std.proofs.Math.Dec.{eqb}
use Rattle.std.proofs.Math.ListN.{get_or}
use borrow.Author.Tests.{eqb-true, eq-eqb}
use Rattle.graph.specs.Basic.{fold, all, member}
use Rattle.graph.specs.State.{State, Vertices, NodeClass, defect_vertex, node_count, holder_at, vertex_holder_at, class_of, boundary_of, down}
use Rattle.graph.specs.Sound.{is_removed}
use Rattle.graph.specs.Active.{join_active}
use Rattle.graph.specs.laws.Active.{join-sound}
use Rattle.graph.specs.laws.State.{and_left, and_right}
use Rattle.graph.specs.laws.Members.{by-test, clash, all_from, all-member, member-head, member-tail}
use Rattle.graph.specs.laws.Shape.{OwnLists, sound-active}
use Rattle.pass.specs.Prepare.{prepare_node}
use Rattle.pass.specs.KeepsSound.{keeps_sound}
use Rattle.pass.proofs.laws.Passes.{Passed}
use Rattle.pass.proofs.laws.Prepare.{prepare-passed}
use Rattle.calls.specs.Refuse.{entries_but}
use Rattle.calls.specs.Insert.{blossom_refusal, prepare_step, blossom_put, insert_blossom}
use Rattle.calls.specs.Keeps.{circle_keeps, blossom_keeps}
use Rattle.calls.proofs.laws.Accepted.{BlossomAccepted, blossom-accepted, entries-passed}
use Rattle.calls.proofs.laws.Keeps.{refused-or}
use Rattle.reachable.specs.Numbers.{SoundNumbers}
use Rattle.reachable.specs.laws.state.Live.{RemovedEmpty}
use Rattle.reachable.specs.laws.prepare.Preparation.{empty-prepared}
use Rattle.reachable.specs.laws.insert.JoinedLists.{joined_lists, FromList, from_list}
use Rattle.reachable.specs.laws.insert.Circle.{MemberLists, member-lists}
use Rattle.reachable.specs.laws.insert.BlossomState.{BlossomMade, BlossomNodes, blossom-nodes, blossom-reads}
use Rattle.reachable.specs.laws.insert.BlossomLive.{blossom-empty}
use Rattle.reachable.specs.laws.insert.BlossomNumbers.{made-numbers, made-entries}
use Rattle.soundness_theorem.specs.KeptSound.{KeptSound}
use Rattle.soundness_theorem.specs.laws.Lists.{SoundLists, lists_of, lists-sound, own-moved, prepared-lists}
use Rattle.soundness_theorem.specs.laws.States.{SoundState, plain, empty, kept_by, after_kept, kept_then, kept-active, kept-unless}

-- ---- the members of a circle, prepared one after the other

-- c has been made of b by preparing some of the circle
record CirclePrepared (circle : List ℕ) (b c : State) : Type 0 where
  lists : SoundLists c
  empty : RemovedEmpty c
  graph : c.graph ≡ b.graph
  class : c.nodes.class ≡ b.nodes.class
  grow_state : c.nodes.grow_state ≡ b.nodes.grow_state
  parent : c.nodes.parent ≡ b.nodes.parent
  node_limit : c.node_limit ≡ b.node_limit
  store_limit : c.store_limit ≡ b.store_limit
  active : c.active ≡ b.active
  entries-but : entries_but c circle ≡ entries_but b circle

module _ (x : ℕ) (circle : List ℕ) (b : State) (ok : BlossomAccepted b x circle) where
  circle-prepared : (ms : List ℕ) (c : State) → CirclePrepared circle b c → ((m : ℕ) → member m ms ≡ true → member m circle ≡ true)
      → circle_keeps c ms ≡ true → CirclePrepared circle b (fold prepare_step c ms)
  unfolding fold circle_keeps prepare_step
  circle-prepared [] c i sub t = i
  circle-prepared (m ∷ ms) c i sub t =
      let here : member m circle ≡ true = sub m (member-head m ms) in
      let p : Passed m c (prepare_node c m down).state = prepare-passed c m down in
      let live : is_removed (class_of c m) ≡ false =
      ap (λ (l : List NodeClass). is_removed (get_or l m (defect_vertex 0))) i.class ∙ ok.live m here in
      circle-prepared ms (prepare_node c m down).state
      (record {
        lists =
            prepared-lists c i.lists m (rw i.grow_state (ok.inside m here)) (ap (λ (l : List ℕ). get_or l m 0) i.parent ∙ ok.outer m here)
            (and_left (keeps_sound c m) (circle_keeps (prepare_node c m down).state ms) t);
        empty = empty-prepared c m down live i.empty;
        graph = p.graph ∙ i.graph;
        class = p.class ∙ i.class;
        grow_state = p.grow_state ∙ i.grow_state;
        parent = p.parent ∙ i.parent;
        node_limit = p.node_limit ∙ i.node_limit;
        store_limit = p.store_limit ∙ i.store_limit;
        active = p.active ∙ i.active;
        entries-but = entries-passed c (prepare_node c m down).state m p circle here ∙ i.entries-but;
      })
      (λ k j. sub k (member-tail k m ms j)) (and_right (keeps_sound c m) (circle_keeps (prepare_node c m down).state ms) t)

-- ---- the members joined

module _ (c : State) (x : ℕ) (circle : List ℕ) (ok : BlossomAccepted c x circle) (ready : State) (i : CirclePrepared circle c ready) where
  members : MemberLists circle c ready
  members =
      member-lists c x circle ok ready (record {
        numbers = i.lists.numbers;
        boundary-held = λ m h b o s e.
            eqb-true _ _ (all-member (λ t. eqb (holder_at ready t) (m + 1)) (boundary_of ready m) s (i.lists.own m b o).sides-held e);
        graph = i.graph;
        class = i.class;
        grow_state = i.grow_state;
        parent = i.parent;
        node_limit = i.node_limit;
        store_limit = i.store_limit;
        active = i.active;
        entries-but = i.entries-but;
      })

  module _ (made : State) (p : BlossomMade c x circle ready made) where
    ns : BlossomNodes c circle ready made
    ns = blossom-nodes c x circle ready made members p

    numbers : SoundNumbers made
    numbers = made-numbers c x circle ok ready made members p

    -- a side that another node holds is not joined
    old-side : (m : ℕ) → member m circle ≡ false → (s : ℕ) → holder_at ready s ≡ m + 1 → holder_at made s ≡ m + 1
    old-side m out s e =
        by-test (member s (joined_lists ready circle))
        (λ h.
        let r : FromList ready circle s = from_list ready circle s h in
        let a : holder_at ready s ≡ r.node + 1 = members.boundary-held r.node r.member_of s r.listed in
        let q : r.node ≡ m = omega arith in
        clash (member m circle) (rw q at r.member_of) out)
        (λ h. p.side-off s h ∙ e)

    old-vertex : (m u : ℕ) → vertex_holder_at ready u ≡ m + 1 → vertex_holder_at made u ≡ m + 1
    old-vertex m u e = ap (λ (l : Vertices). get_or l.vertex_holder u 0) p.made-vertices ∙ e

    new-own : OwnLists made (node_count c)
    unfolding all
    new-own =
        let b : node_count c < node_count made = omega (arith, p.made-count) in
        record {
          sides-once = (numbers.once (node_count c) b p.parent-new).sides;
          vertices-once = (numbers.once (node_count c) b p.parent-new).vertices;
          sides-held = rw p.boundary-new
              (all_from (λ s. eqb (holder_at made s) (node_count c + 1)) (joined_lists ready circle) (λ s h. eq-eqb _ _ (p.side-in s h)));
          vertices-held = rw p.overgrown-new refl;
        }

    blossom-lists : SoundLists made
    blossom-lists = record {
      numbers = numbers;
      own = λ m b o.
          ⊎_elim
          (λ (a : m < node_count c).
          let s = ns.still-outer m a o in
          own-moved ready made m (p.boundary-old m a) (p.overgrown-old m a) (old-side m s.0) (old-vertex m)
          (i.lists.own m (rw members.count a) s.1))
          (λ (a : m ≡ node_count c). rw a new-own)
          (ns.old-or-new m b);
    }

-- ---- the call

module _ (c : State) (g : SoundState c) (x : ℕ) (circle : List ℕ) (ok : BlossomAccepted c x circle) (t : circle_keeps c circle ≡ true) where
  abbrev ready : State
  ready = fold prepare_step c circle

  abbrev made : State
  made = blossom_put c x circle

  prepared : CirclePrepared circle c ready
  prepared =
      circle-prepared x circle c ok circle c (record {
        lists = lists_of c g.shape g.one (plain g);
        empty = empty g;
        graph = refl;
        class = refl;
        grow_state = refl;
        parent = refl;
        node_limit = refl;
        store_limit = refl;
        active = refl;
        entries-but = refl;
      })
      (λ m h. h) t

  ms : MemberLists circle c ready
  ms = members c x circle ok ready prepared

  put : BlossomMade c x circle ready made
  put = blossom-reads c g.shape x circle ok ms

  put-kept : KeptSound c made
  put-kept =
      kept_by (put.made-graph ∙ prepared.graph) put.made-shape
      (lists-sound made (blossom-lists c x circle ok ready prepared made put) (made-entries c x circle ok ready made ms put))
      (blossom-empty c x circle ok ready made ms put prepared.empty)

  joined-kept : KeptSound c (join_active made (node_count c))
  joined-kept =
      let s : SoundState made = after_kept g put-kept in
      let b : node_count c < node_count made = omega (arith, put.made-count) in
      kept_then put-kept (unfold join_active in (kept-active made _ s (unfold join_active in (join-sound made (node_count c) b (sound-active made (plain s))))))

pub blossom-kept : (c : State) → SoundState c → (x : ℕ) (circle : List ℕ) → blossom_keeps c x circle ≡ true → KeptSound c (insert_blossom c x circle).state
unfolding insert_blossom blossom_keeps
blossom-kept c g x circle t =
    kept-unless (blossom_refusal c x circle) c _ g
    (λ e. joined-kept c g x circle (blossom-accepted c x circle e) (refused-or (blossom_refusal c x circle) (circle_keeps c circle) t e))
