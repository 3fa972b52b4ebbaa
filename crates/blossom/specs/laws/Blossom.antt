-- Laws of the insertion of a blossom: preparing and joining its members.
use Rattle.std.specs.Prelude.{ℕ, ◌+◌, ◌≤◌, ◌<◌, ◌≡◌, ◌≢◌, true, false, List, [], ◌∷◌, ◌++◌, ℤ, pos, ltb, eqb, get_or, set, take}
use Rattle.std.proofs.Common.{arith, sym, ap, ◌∙◌, length-append}
use Rattle.std.proofs.Math.Decide.{ℕ_discrete as dec_eq}
use Rattle.std.proofs.Math.Path.{refl, subst}
use Rattle.std.proofs.Math.ListN.{length, length-set}
use borrow.Author.Tests.{lt-ltb, eq-eqb, ne_eqb}
use Rattle.graph.specs.Basic.{fold, all, member, distinct}
use Rattle.graph.specs.State.{State, blossom, vertex_count, side_count, node_count, holder_at, boundary_of, with_sides, with_nodes, with_holder, with_grow_state, with_parent, with_node, down}
use Rattle.graph.specs.Sound.{entries_of, entries}
use Rattle.graph.specs.Word.{numbers_at}
use Rattle.graph.specs.Layout.{state_of, class_from}
use Rattle.graph.specs.laws.Class.{class-blossom}
use Rattle.graph.specs.Form.{Formed}
use Rattle.graph.specs.inner.Form.{Becomes, sides_ok}
use Rattle.graph.specs.inner.Insert.{Inserted}
use Rattle.graph.specs.laws.State.{if-both, fold_more, fold_done, fold-keeps, holder-same, holder-other}
use Rattle.graph.specs.laws.Members.{by-test, all_snoc, member-at, member-append, member-cons, member-nil, distinct_snoc, distinct-length}
use Rattle.graph.specs.Shape.{Shape}
use Rattle.graph.specs.laws.Form.{laid-shape}
use Rattle.graph.specs.laws.Row.{becomes-none, becomes-then}
use Rattle.pass.specs.Scratch.{scratch_of}
use Rattle.pass.specs.inner.Scratch.{wiped}
use Rattle.pass.specs.Prepare.{prepare_node}
use Rattle.pass.specs.inner.Ready.{Ready, Shrinkable, Preparable, AfterPreparation}
use Rattle.pass.proofs.laws.Scratch.{scratch-same, hold-first, first-numbers, wipe-first}
use Rattle.pass.proofs.laws.Passes.{Passed}
use Rattle.pass.proofs.laws.Prepare.{prepare-passed}
use Rattle.answers.specs.Outcome.{Node, Refused}
use Rattle.answers.specs.Answer.{says}
use Rattle.calls.specs.Refuse.{entries_unless, entries_but, unless}
use Rattle.calls.specs.Insert.{Joining, blossom_refusal, prepare_step, join_side, member_stays, join_step, join_circle, blossom_put, insert_blossom}
use Rattle.calls.proofs.laws.Front.{front-none, none-front, front-before, front-after}
use Rattle.blossom.specs.inner.Circle.{Joinable, JoinedIn, joined_in}
use Rattle.calls.specs.inner.Reply.{RepliesInsert, Usable}
use Rattle.calls.proofs.laws.Accepted.{BlossomAccepted, blossom-accepted, entries-passed}
use Rattle.blossom.specs.laws.Circle.{joinable-room, accepted-joinable}
use Rattle.graph.specs.Active.{join_active}
use Rattle.graph.specs.laws.Shape.{sound-active}
use Rattle.calls.proofs.laws.Defect.{SameLists, same_refl, Joins, new-joins, node-active, inserted-joined}

-- ---- preparing

-- the lists of other nodes are as they were
shrinkable-other : (n : ℕ) (c d : State) → Passed n c d → (m : ℕ) → m ≢ n → Shrinkable c m → Shrinkable d m
unfolding sides_ok
shrinkable-other n c d p m ne s = record {
  sides = rw (p.graph, p.boundaries m ne) s.sides;
  once = rw (p.boundaries m ne) s.once;
  stack = rw (p.graph, p.overgrowns m ne) s.stack;
  size = rw (p.graph, p.overgrowns m ne) s.size;
}

-- a member that was prepared may be shrunk again, and the circle may be joined still
joinable-passed : {c d : State} {circle : List ℕ} (m : ℕ) → Joinable c circle → member m circle ≡ true → Passed m c d → Shrinkable d m → Joinable d circle
joinable-passed {c} {d} {circle} m j h p s = record {
  inside = λ k i. rw p.grow_state (j.inside k i);
  once = j.once;
  lists = λ k i. elim (dec_eq k m) [ yes e ↦ rw e s | no e ↦ shrinkable-other m c d p k e (j.lists k i) ];
  count = rw (p.grow_state, p.node_limit) j.count;
  room = rw (entries-passed c d m p circle h, p.graph, p.store_limit) j.room;
}

-- the first i members are prepared
pub record Preparing (b₀ b t : List ℤ) (circle : List ℕ) (i : ℕ) : Type 0 where
  pub below : i ≤ length circle
  pub block : Becomes b₀ b (fold prepare_step (state_of b₀) (take i circle))
  pub scratch : t ≡ scratch_of (state_of b₀)
  pub joinable : Joinable (state_of b) circle

pub preparing-none : {b t : List ℤ} {circle : List ℕ} → Formed b → t ≡ scratch_of (state_of b)
    → Joinable (state_of b) circle → Preparing b b t circle 0
unfolding fold
preparing-none {b} {t} {circle} f e j = record { below = omega arith; block = becomes-none b (state_of b) f refl; scratch = e; joinable = j }

module _ {b₀ b t : List ℤ} {circle : List ℕ} {i : ℕ} (q : Preparing b₀ b t circle i) where
  pub preparing-all : length circle ≤ i → Becomes b₀ b (fold prepare_step (state_of b₀) circle)
  preparing-all h = rw (← fold_done prepare_step (state_of b₀) circle i h) q.block

  module _ (m : ℕ) (h : i < length circle) (e : m ≡ get_or circle i 0) where
    here : member m circle ≡ true
    here = rw e (member-at circle i 0 h)

    pub preparing-ready : Ready b t m
    preparing-ready = record {
      formed = q.block.formed;
      node = q.joinable.inside m here;
      scratch = q.scratch ∙ scratch-same q.block;
      room = omega (arith, joinable-room q.joinable);
    }

    pub preparing-able : Preparable (state_of b) m 0
    preparing-able = record { grows = λ z. absurd (omega (arith, z)); shrinks = λ z. q.joinable.lists m here }

    pub preparing-more : {b' t' : List ℤ} {k : ℕ} → AfterPreparation b b' t t' (prepare_node (state_of b) m 0) k
        → Preparable (state_of b') m 0 → Preparing b₀ b' t' circle (i + 1)
    unfolding prepare_step
    preparing-more {b'} {t'} {k} a s =
        let z : (prepare_node (state_of b) m 0).state ≡ fold prepare_step (state_of b₀) (take (i + 1) circle) =
        rw (q.block.state, e) (sym (fold_more prepare_step (state_of b₀) circle i 0 h)) in
        let p : Passed m (state_of b) (state_of b') = rw a.block.state (prepare-passed (state_of b) m 0) in
        record {
          below = omega (arith, h);
          block = subst (Becomes b₀ b') z (becomes-then q.block a.block);
          scratch = a.scratch ∙ q.scratch;
          joinable = joinable-passed m q.joinable here p (s.shrinks (λ z. absurd (omega (arith, z))));
        }

-- ---- what joining leaves alone

same-entries-but : {c d : State} → SameLists c d → (named : List ℕ) → entries_but d named ≡ entries_but c named
unfolding entries_but entries_unless entries_of
same-entries-but p named = rw (p.count, p.boundary, p.overgrown)

same-shrinkable : {c d : State} → SameLists c d → (m : ℕ) → Shrinkable c m → Shrinkable d m
unfolding sides_ok
same-shrinkable p m s = record {
  sides = rw (p.graph, p.boundary) s.sides;
  once = rw p.boundary s.once;
  stack = rw (p.graph, p.overgrown) s.stack;
  size = rw (p.graph, p.overgrown) s.size;
}

same-joinable : {c d : State} {circle : List ℕ} → SameLists c d → Joinable c circle → Joinable d circle
same-joinable {c} {d} {circle} p j = record {
  inside = λ m h. rw p.count (j.inside m h);
  once = j.once;
  lists = λ m h. same-shrinkable p m (j.lists m h);
  count = rw (p.count, p.node_limit) j.count;
  room = rw (same-entries-but p circle, p.graph, p.store_limit) j.room;
}

module _ (c : State) (n : ℕ) where
  -- of the state while a circle is joined
  abbrev Leaves : Joining → Type 0
  Leaves j = SameLists c j.state

  leaves-side : (m : ℕ) (j : Joining) (s : ℕ) → Leaves j → Leaves (join_side n m j s)
  unfolding join_side with_holder with_sides
  leaves-side m j s p =
      if-both Leaves (eqb (holder_at j.state s) (m + 1))
      (record {
        graph = p.graph;
        boundary = p.boundary;
        overgrown = p.overgrown;
        count = p.count;
        node_limit = p.node_limit;
        store_limit = p.store_limit;
        active = p.active;
      })
      p

  leaves-sides : (m : ℕ) (j : Joining) (l : List ℕ) → Leaves j → Leaves (fold (join_side n m) j l)
  leaves-sides m j l p = fold-keeps (join_side n m) Leaves (leaves-side m) j l p

  leaves-step : (j : Joining) (m : ℕ) → Leaves j → Leaves (join_step n j m)
  unfolding join_step member_stays with_parent with_grow_state with_nodes
  leaves-step j m p =
      let z : Joining = fold (join_side n m) j (boundary_of j.state m) in
      let r : Leaves z = leaves-sides m j (boundary_of j.state m) p in
      record {
        graph = r.graph;
        boundary = r.boundary;
        overgrown = r.overgrown;
        count = length-set z.state.nodes.grow_state m 0 ∙ r.count;
        node_limit = r.node_limit;
        store_limit = r.store_limit;
        active = r.active;
      }

  leaves-circle : (j : Joining) (circle : List ℕ) → Leaves j → Leaves (fold (join_step n) j circle)
  leaves-circle j circle p = fold-keeps (join_step n) Leaves leaves-step j circle p

prepared-active : (c : State) (circle : List ℕ) → (fold prepare_step c circle).active ≡ c.active
unfolding prepare_step
prepared-active c circle = fold-keeps prepare_step (λ (d : State). d.active ≡ c.active) (λ d m e. (prepare-passed d m down).active ∙ e) c circle refl

circle-active : (c : State) (circle : List ℕ) → (join_circle c circle).state.active ≡ c.active
unfolding join_circle
circle-active c circle =
    let d : State = fold prepare_step c circle in
    (leaves-circle d (node_count c) (record { state = d; sides = [] }) circle (same_refl d)).active ∙ prepared-active c circle

-- ---- one side more

module _ {b₀ b t : List ℤ} {n k : ℕ} {j : Joining} (p : JoinedIn b₀ b t n k j) where
  joined-sides : side_count j.state ≡ side_count (state_of b₀)
  joined-sides = ap (λ (c : State). side_count c) (sym p.block.state) ∙ p.block.sides

  joined-shape : Shape j.state
  joined-shape = rw p.block.state at (laid-shape b p.block.formed.laid)

  -- the scratch has room for them
  pub joined-most : k ≤ side_count (state_of b₀)
  joined-most = rw p.count (distinct-length (side_count (state_of b₀)) j.sides p.once p.inside)

  pub joined-read : k ≤ length t
  joined-read = omega (arith, joined-most, p.holding.size)

  -- side s is held by member m
  module _ (m s : ℕ) (inside : s < side_count (state_of b₀)) (e : holder_at (state_of b) s ≡ m + 1) (apart : m ≢ n) where
    here-held : holder_at j.state s ≡ m + 1
    here-held = rw p.block.state at e

    -- it is not joined yet
    new : member s j.sides ≡ false
    new = by-test (member s j.sides) (λ r. absurd (apart (omega (arith, here-held, p.held s r)))) (λ r. r)

    once_more : distinct (j.sides ++ (s ∷ [])) ≡ true
    once_more = distinct_snoc j.sides s p.once new

    inside-more : all (λ r. ltb r (side_count (state_of b₀))) (j.sides ++ (s ∷ [])) ≡ true
    inside-more = all_snoc (λ r. ltb r (side_count (state_of b₀))) j.sides s p.inside (lt-ltb s (side_count (state_of b₀)) inside)

    pub joined-space : k < side_count (state_of b₀)
    joined-space =
        omega (
          arith,
          p.count,
          length-append j.sides (s ∷ []),
          distinct-length (side_count (state_of b₀)) (j.sides ++ (s ∷ [])) once_more inside-more,
        )

    same_here : holder_at (with_holder j.state s (n + 1)) s ≡ n + 1
    same_here = holder-same j.state s (n + 1) (omega (arith, inside, joined-sides, joined-shape.holder))

    held_more : (r : ℕ) → member r (j.sides ++ (s ∷ [])) ≡ true → holder_at (with_holder j.state s (n + 1)) r ≡ n + 1
    held_more r h =
        elim (dec_eq r s) [
          | yes q ↦ rw q same_here
          | no q ↦ member-append r j.sides (s ∷ []) h (λ z. holder-other j.state s (n + 1) r q ∙ p.held r z)
              (λ z. member-cons r s [] z (λ y. absurd (q y)) (λ y. member-nil r y))
        ]

    pub joined-side : {b' : List ℤ} → Becomes b b' (with_holder (state_of b) s (n + 1)) → JoinedIn b₀ b' (set t k (pos s)) n (k + 1) (join_side n m j s)
    unfolding join_side
    joined-side {b'} x =
        let space : length j.sides < side_count (state_of b₀) = rw (← p.count) joined-space in
        rw (eq-eqb (holder_at j.state s) (m + 1) here-held) (record {
          block = becomes-then p.block (rw p.block.state at x);
          holding = rw p.count (hold-first p.holding s space);
          count = rw p.count (sym (length-append j.sides (s ∷ [])));
          once = once_more;
          inside = inside-more;
          held = held_more;
        })

  -- another side is left alone
  pub joined-other : (m s : ℕ) → holder_at (state_of b) s ≢ m + 1 → JoinedIn b₀ b t n k (join_side n m j s)
  unfolding join_side
  joined-other m s e = rw (ne_eqb (holder_at j.state s) (m + 1) (λ q. e (rw p.block.state q))) p

-- ---- the sides of a member

-- the first i sides of member m's boundary are joined, behind the k that were there: q in all
pub record SidesJoined (b₀ b t₀ t : List ℤ) (m n k i q : ℕ) : Type 0 where
  pub below : i ≤ length (boundary_of (state_of b₀) m)
  pub joined : JoinedIn b₀ b t n q (fold (join_side n m) (joined_in b₀ t₀ k) (take i (boundary_of (state_of b₀) m)))

pub sides-none : {b t : List ℤ} (m n k : ℕ) → JoinedIn b b t n k (joined_in b t k) → SidesJoined b b t t m n k 0 k
unfolding fold
sides-none m n k p = record { below = omega arith; joined = p }

module _ {b₀ b t₀ t : List ℤ} {m n k i q : ℕ} (p : SidesJoined b₀ b t₀ t m n k i q) where
  sides-same : SameLists (state_of b₀) (state_of b)
  sides-same = rw p.joined.block.state (leaves-sides (state_of b₀) n m (joined_in b₀ t₀ k) (take i (boundary_of (state_of b₀) m)) (same_refl (state_of b₀)))

  -- the boundary is still that, and holds sides
  pub sides-list : boundary_of (state_of b) m ≡ boundary_of (state_of b₀) m
  sides-list = ap (λ (l : List (List ℕ)). get_or l m []) sides-same.boundary

  pub sides-ok : sides_ok (state_of b₀) m ≡ true → sides_ok (state_of b) m ≡ true
  unfolding sides_ok
  sides-ok h = rw (sides-same.graph, sides-list) h

  module _ (s : ℕ) (h : i < length (boundary_of (state_of b₀) m)) (e : s ≡ get_or (boundary_of (state_of b₀) m) i 0) where
    next : join_side n m (fold (join_side n m) (joined_in b₀ t₀ k) (take i (boundary_of (state_of b₀) m))) s
        ≡ fold (join_side n m) (joined_in b₀ t₀ k) (take (i + 1) (boundary_of (state_of b₀) m))
    next = rw e (sym (fold_more (join_side n m) (joined_in b₀ t₀ k) (boundary_of (state_of b₀) m) i 0 h))

    pub sides-more : {b' : List ℤ} → s < side_count (state_of b₀) → holder_at (state_of b) s ≡ m + 1 → m ≢ n
        → Becomes b b' (with_holder (state_of b) s (n + 1)) → SidesJoined b₀ b' t₀ (set t q (pos s)) m n k (i + 1) (q + 1)
    sides-more {b'} inside held apart x =
        record {
          below = omega (arith, h);
          joined = subst (JoinedIn b₀ b' (set t q (pos s)) n (q + 1)) next (joined-side p.joined m s inside held apart x);
        }

    pub sides-skip : holder_at (state_of b) s ≢ m + 1 → SidesJoined b₀ b t₀ t m n k (i + 1) q
    sides-skip free = record { below = omega (arith, h); joined = subst (JoinedIn b₀ b t n q) next (joined-other p.joined m s free) }

  pub sides_all : length (boundary_of (state_of b₀) m) ≤ i → JoinedIn b₀ b t n q (fold (join_side n m) (joined_in b₀ t₀ k) (boundary_of (state_of b₀) m))
  sides_all h = rw (← fold_done (join_side n m) (joined_in b₀ t₀ k) (boundary_of (state_of b₀) m) i h) p.joined

-- ---- the members

-- member m becomes Stay and lies in blossom n
pub joined-member-stays : {b₀ b b' b'' t : List ℤ} {n k : ℕ} {j : Joining} (m : ℕ) → JoinedIn b₀ b t n k j
    → Becomes b b' (with_grow_state (state_of b) m 0) → Becomes b' b'' (with_parent (state_of b') m (n + 1))
    → JoinedIn b₀ b'' t n k (member_stays n m j)
unfolding member_stays with_parent with_grow_state with_nodes
joined-member-stays {b₀} {b} {b'} {b''} {t} {n} {k} {j} m p x y = record {
  block = becomes-then (becomes-then p.block x) (rw (x.state, p.block.state) at y);
  holding = p.holding;
  count = p.count;
  once = p.once;
  inside = p.inside;
  held = p.held;
}

module _ {b₀ b t : List ℤ} {n k : ℕ} {j : Joining} (p : JoinedIn b₀ b t n k j) where
  -- what is joined is what stands in memory
  joined_is : joined_in b t k ≡ j
  joined_is =
      let s : numbers_at t 0 k ≡ j.sides = rw p.count (first-numbers p.holding) in
      rw (p.block.state, s)

  pub joined-here : JoinedIn b b t n k (joined_in b t k)
  joined-here = rw joined_is (record {
    block = becomes-none b j.state p.block.formed p.block.state;
    holding = front-after p.block p.holding;
    count = p.count;
    once = p.once;
    inside = rw p.block.sides p.inside;
    held = p.held;
  })

pub joined-none : {b t : List ℤ} (n : ℕ) → Formed b → t ≡ scratch_of (state_of b) → JoinedIn b b t n 0 (joined_in b t 0)
unfolding numbers_at distinct all
joined-none {b} {t} n f e = record {
  block = becomes-none b (state_of b) f refl;
  holding = front-none f e;
  count = refl;
  once = refl;
  inside = refl;
  held = λ s h. member-nil s h;
}

-- the same, seen from an earlier block
pub joined-after : {b₀ b b' t' : List ℤ} {c : State} {n k : ℕ} {j : Joining} → Becomes b₀ b c → JoinedIn b b' t' n k j → JoinedIn b₀ b' t' n k j
joined-after q p = record {
  block = becomes-then q p.block;
  holding = front-before q p.holding;
  count = p.count;
  once = p.once;
  inside = rw (← q.sides) p.inside;
  held = p.held;
}

-- the first i members are joined: k sides
pub record MembersJoined (b₀ b t₀ t : List ℤ) (circle : List ℕ) (n i k : ℕ) : Type 0 where
  pub below : i ≤ length circle
  pub joined : JoinedIn b₀ b t n k (fold (join_step n) (joined_in b₀ t₀ 0) (take i circle))
  pub joinable : Joinable (state_of b) circle

pub members-none : {b t : List ℤ} {circle : List ℕ} (n : ℕ) → Formed b → t ≡ scratch_of (state_of b)
    → Joinable (state_of b) circle → MembersJoined b b t t circle n 0 0
unfolding fold
members-none n f e j = record { below = omega arith; joined = joined-none n f e; joinable = j }

module _ {b₀ b t₀ t : List ℤ} {circle : List ℕ} {n i k : ℕ} (p : MembersJoined b₀ b t₀ t circle n i k) where
  pub members-all : length circle ≤ i → JoinedIn b₀ b t n k (fold (join_step n) (joined_in b₀ t₀ 0) circle)
  members-all h = rw (← fold_done (join_step n) (joined_in b₀ t₀ 0) circle i h) p.joined

  module _ (m : ℕ) (h : i < length circle) (e : m ≡ get_or circle i 0) where
    at-hand : member m circle ≡ true
    at-hand = rw e (member-at circle i 0 h)

    pub members-node : m < node_count (state_of b)
    members-node = p.joinable.inside m at-hand

    pub members-sides : sides_ok (state_of b) m ≡ true
    members-sides = (p.joinable.lists m at-hand).sides

    -- the blossom is no member
    pub members-apart : n ≡ node_count (state_of b₀) → m ≢ n
    members-apart en q = absurd (omega (arith, members-node, p.joined.block.nodes, en, q))

    pub members-more : {b' t' : List ℤ} {k' : ℕ} → JoinedIn b b' t' n k' (join_step n (joined_in b t k) m) → MembersJoined b₀ b' t₀ t' circle n (i + 1) k'
    members-more {b'} {t'} {k'} x =
        let z : join_step n (joined_in b t k) m ≡ fold (join_step n) (joined_in b₀ t₀ 0) (take (i + 1) circle) =
        rw (joined_is p.joined, e) (sym (fold_more (join_step n) (joined_in b₀ t₀ 0) circle i 0 h)) in
        let same : SameLists (state_of b) (state_of b') = rw x.block.state (leaves-step (state_of b) n (joined_in b t k) m (same_refl (state_of b))) in
        record {
          below = omega (arith, h);
          joined = subst (JoinedIn b₀ b' t' n k') z (joined-after p.joined.block x);
          joinable = same-joinable same p.joinable;
        }

-- the members of a circle that was prepared
pub circle-joined : {b₀ b b' t' : List ℤ} {n k : ℕ} (t : List ℤ) (circle : List ℕ) → n ≡ node_count (state_of b₀)
    → Becomes b₀ b (fold prepare_step (state_of b₀) circle) → JoinedIn b b' t' n k (fold (join_step n) (joined_in b t 0) circle)
    → JoinedIn b₀ b' t' n k (join_circle (state_of b₀) circle)
unfolding join_circle numbers_at
circle-joined {b₀} {b} {b'} {t'} {n} {k} t circle e q x =
    let z : fold (join_step n) (joined_in b t 0) circle ≡ join_circle (state_of b₀) circle = rw (q.state, e) in
    subst (JoinedIn b₀ b' t' n k) z (joined-after q x)

-- ---- the node

module _ {b t : List ℤ} (u : Usable b t) (x k : ℕ) (circle : List ℕ) (e : k ≡ blossom_refusal (state_of b) x circle) where
  pub blossom-refused : k ≢ 0 → RepliesInsert b b (Refused k) (insert_blossom (state_of b) x circle)
  unfolding insert_blossom unless says
  blossom-refused h =
      rw (← e, ne_eqb k 0 h)
      (record { answer = refl; formed = u.formed; state = refl; vertices = refl; edges = refl; sides = refl; len = refl })

  module _ (h : k ≡ 0) where
    taken : BlossomAccepted (state_of b) x circle
    taken = blossom-accepted (state_of b) x circle (sym e ∙ h)

    pub blossom-joinable : Joinable (state_of b) circle
    blossom-joinable = accepted-joinable u taken

    pub blossom-state-small : x < 9223372036854775808
    blossom-state-small = omega (arith, taken.grow_state)

    -- the circle has a first member, which is a node
    pub blossom-some : 0 < length circle
    blossom-some = omega (arith, taken.three)

    pub blossom-first : get_or circle 0 0 < 1024
    blossom-first = omega (arith, taken.inside (get_or circle 0 0) (member-at circle 0 0 blossom-some), u.formed.nodes-max)

    module _ (n l : ℕ) {b₃ t₃ : List ℤ} (en : n ≡ node_count (state_of b)) (p : JoinedIn b b₃ t₃ n l (join_circle (state_of b) circle)) where
      pub blossom-room : Joinable (state_of b₃) circle → entries (state_of b₃) + l ≤ (state_of b₃).store_limit
      blossom-room j = omega (arith, joinable-room j, joined-most p, p.block.sides)

      -- the new node can join the active list
      pub blossom-joins : {b₄ : List ℤ} (class : ℕ)
          → Inserted b₃ b₄ (with_node (state_of b₃) (class_from (vertex_count (state_of b₃)) class) x (numbers_at t₃ 0 l))
          → Joins b₄ n
      blossom-joins {b₄} class r =
          new-joins b b₃ b₄ _ n en (sound-active (state_of b) u.sounds) p.block.nodes
          (ap (λ (c : State). c.active) p.block.state ∙ circle-active (state_of b) circle)
          (node-active (state_of b₃) _ x _) r

      pub blossom-done : {b₄ b₅ : List ℤ} (class : ℕ) → class ≡ vertex_count (state_of b₃) + get_or circle 0 0
          → Inserted b₃ b₄ (with_node (state_of b₃) (class_from (vertex_count (state_of b₃)) class) x (numbers_at t₃ 0 l))
          → Becomes b₄ b₅ (join_active (state_of b₄) n) → RepliesInsert b b₅ (Node n) (insert_blossom (state_of b) x circle)
      unfolding insert_blossom unless blossom_put
      blossom-done {b₄} {b₅} class ec r a =
          let j : Joining = join_circle (state_of b) circle in
          let y : class_from (vertex_count (state_of b₃)) class ≡ blossom (get_or circle 0 0) =
          rw ec (class-blossom (vertex_count (state_of b₃)) (get_or circle 0 0) (λ q. omega (arith, q, blossom-first))) in
          let w : numbers_at t₃ 0 l ≡ j.sides = rw p.count (first-numbers p.holding) in
          let z : with_node (state_of b₃) (class_from (vertex_count (state_of b₃)) class) x (numbers_at t₃ 0 l)
          ≡ with_node j.state (blossom (get_or circle 0 0)) x j.sides =
          rw (y, w, p.block.state) in
          rw (← e, eq-eqb k 0 h) (inserted-joined p.block r a en z)

      pub blossom-wiped : {t₅ : List ℤ} → t₅ ≡ wiped t₃ 0 l → t₅ ≡ t
      blossom-wiped {t₅} i = i ∙ rw p.count (none-front u.formed (wipe-first p.holding)) ∙ sym u.scratch
