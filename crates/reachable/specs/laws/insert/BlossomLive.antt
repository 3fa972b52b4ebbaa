-- A blossom is inserted: removed nodes stay with nothing, and its first member lies in it.
use Rattle.std.specs.Prelude.{ℕ, ◌+◌, ◌≤◌, ◌<◌, ◌≡◌, true, false, List, [], ◌∷◌, length, get_or}
use Rattle.std.proofs.Common.{arith, sym, ap, subst, ◌∙◌}
use Rattle.std.proofs.Math.Decide.{ℕ_discrete as dec_eq, dec_lt}
use Rattle.std.proofs.Math.Logic.{by_cases}
use Rattle.graph.specs.Basic.{member}
use Rattle.graph.specs.State.{State, Vertices, defect_vertex, blossom, node_count, class_of, parent_of}
use Rattle.graph.specs.Sound.{is_removed}
use Rattle.graph.specs.laws.Members.{by-test, clash, member-head}
use Rattle.calls.proofs.laws.Accepted.{BlossomAccepted}
use Rattle.reachable.specs.Invariant.{Emptied, Live}
use Rattle.reachable.specs.laws.state.Live.{RemovedEmpty, FirstInside, removed-empty, live_of, class-beyond, parent-beyond}
use Rattle.reachable.specs.laws.insert.JoinedLists.{joined_lists}
use Rattle.reachable.specs.laws.insert.Circle.{MemberLists}
use Rattle.reachable.specs.laws.insert.BlossomState.{BlossomMade}

head-member : (l : List ℕ) → 3 ≤ length l → member (get_or l 0 0) l ≡ true
head-member [] h = absurd (omega arith)
head-member (i ∷ l) h = member-head i l

module _ (c : State) (x : ℕ) (circle : List ℕ) (ok : BlossomAccepted c x circle) (ready made : State) (ms : MemberLists circle c ready)
    (made_by : BlossomMade c x circle ready made) where
  later-class : (m : ℕ) → node_count c < m → class_of made m ≡ defect_vertex 0
  later-class m h = class-beyond made made_by.made-shape m (omega (arith, made_by.made-count))

  pub no-parent-later : (m : ℕ) → node_count c ≤ m → parent_of made m ≡ 0
  no-parent-later m h =
      by_cases (dec_eq m (node_count c))
      (λ q. ap (parent_of made) q ∙ made_by.parent-new)
      (λ q. parent-beyond made made_by.made-shape m (omega (arith, made_by.made-count)))

  later-live : (m : ℕ) → node_count c ≤ m → is_removed (class_of made m) ≡ false
  unfolding is_removed
  later-live m h = by_cases (dec_eq m (node_count c)) (λ q. rw (q, made_by.class-new)) (λ q. rw (later-class m (omega arith)))

  still-live : (m : ℕ) → is_removed (class_of ready m) ≡ false → is_removed (class_of made m) ≡ false
  still-live m e = by_cases (dec_lt m (node_count c)) (λ a. rw (made_by.class-old m a) e) (λ a. later-live m (omega arith))

  -- a blossom was one before, or is the new one, whose first member is a member
  blossom-of : {P : Type 0} (n m : ℕ) → class_of made n ≡ blossom m
      → ((a : n < node_count c) → class_of ready n ≡ blossom m → P) → (n ≡ node_count c → member m circle ≡ true → P) → P
  blossom-of n m e old new =
      by_cases (dec_lt n (node_count c))
      (λ a. old a (sym (made_by.class-old n a) ∙ e))
      (λ a.
      by_cases (dec_eq n (node_count c))
      (λ q.
      let y : blossom (get_or circle 0 0) ≡ blossom m = sym made_by.class-new ∙ ap (class_of made) (sym q) ∙ e in
      let w : get_or circle 0 0 ≡ m = cc in
      new q (subst (λ (i : ℕ). member i circle ≡ true) w (head-member circle ok.three)))
      (λ q. absurd (let y : defect_vertex 0 ≡ blossom m = sym (later-class n (omega arith)) ∙ e in let w : ◌≡◌ {A = ℕ} 0 1 = cc in omega arith)))

  member-live : (m : ℕ) → member m circle ≡ true → is_removed (class_of ready m) ≡ false
  member-live m h = rw ms.class (ok.live m h)

  pub blossom-empty : RemovedEmpty ready → RemovedEmpty made
  blossom-empty l = record {
    emptied = λ m e.
        by_cases (dec_lt m (node_count c))
        (λ a.
        let r : is_removed (class_of ready m) ≡ true = rw (made_by.class-old m a) at e in
        let off : member m circle ≡ false = by-test (member m circle) (λ h. clash (is_removed (class_of ready m)) r (member-live m h)) (λ h. h) in
        let b : Emptied ready m = l.emptied m r in
        record {
          parent = made_by.parent-off m a off ∙ b.parent;
          grow_state = made_by.grow-state-off m a off ∙ b.grow_state;
          boundary = made_by.boundary-old m a ∙ b.boundary;
          overgrown = made_by.overgrown-old m a ∙ b.overgrown;
        })
        (λ a. clash (is_removed (class_of made m)) e (later-live m (omega arith)));
    side = λ t m e.
        by-test (member t (joined_lists ready circle))
        (λ h. later-live m (omega (arith, made_by.side-in t h)))
        (λ h. still-live m (l.side t m (sym (made_by.side-off t h) ∙ e)));
    vertex = λ u m e. still-live m (l.vertex u m (sym (ap (λ (y : Vertices). get_or y.vertex_holder u 0) made_by.made-vertices) ∙ e));
    parent = λ m j e.
        by_cases (dec_lt m (node_count c))
        (λ a.
        by-test (member m circle)
        (λ h. later-live j (omega (arith, made_by.parent_in m a h)))
        (λ h. still-live j (l.parent m j (sym (made_by.parent-off m a h) ∙ e))))
        (λ a. absurd (omega (arith, no-parent-later m (omega arith))));
    first = λ n m e. still-live m (blossom-of n m e (λ a q. l.first n m q) (λ q h. member-live m h));
  }

  new-first : FirstInside ready → FirstInside made
  new-first f n m e =
      blossom-of n m e
      (λ a q.
      let y : parent_of ready m ≡ n + 1 = f n m q in
      by_cases (dec_lt m (node_count c))
      (λ b. made_by.parent-off m b (by-test (member m circle) (λ h. absurd (omega (arith, ms.outer m h))) (λ h. h)) ∙ y)
      (λ b. absurd (omega (arith, parent-beyond ready ms.numbers.shape m (omega (arith, ms.count))))))
      (λ q h. made_by.parent_in m (ok.inside m h) h ∙ ap (λ (i : ℕ). i + 1) (sym q))

  pub blossom-live : Live ready → Live made
  blossom-live l = live_of (blossom-empty (removed-empty l)) (new-first l.first)
