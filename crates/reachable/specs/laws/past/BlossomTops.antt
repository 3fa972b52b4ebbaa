-- A blossom is inserted: it is the outermost node above its members and above all that lies in them.
use Rattle.std.specs.Prelude.{ℕ, ◌+◌, ◌≤◌, ◌<◌, ◌≡◌, true, false, List, [], get_or, if◌then◌else◌}
use Rattle.std.proofs.Common.{arith, ◌∙◌, ⊎_elim}
use Rattle.std.proofs.Math.Decide.{dec_lt}
use Rattle.std.proofs.Math.Path.{sym, ap}
use Rattle.std.proofs.Math.Logic.{by_cases}
use Rattle.graph.specs.Basic.{member}
use Rattle.graph.specs.State.{State, Graph, node_count, end_at, parent_of}
use Rattle.reachable.specs.laws.state.Live.{parent-beyond}
use Rattle.graph.specs.laws.Members.{by-test}
use Rattle.calls.proofs.laws.Accepted.{BlossomAccepted}
use Rattle.reachable.specs.Invariant.{Labels, Clusters, Invariant}
use Rattle.reachable.specs.Numbers.{SoundNumbers}
use Rattle.reachable.specs.laws.insert.JoinedLists.{joined_lists}
use Rattle.reachable.specs.laws.insert.Circle.{Members, CirclePreparing}
use Rattle.reachable.specs.laws.insert.BlossomLabels.{new_owner, blossom_labels}
use Rattle.reachable.specs.laws.insert.BlossomState.{BlossomNodes, BlossomMade}
use Rattle.reachable.specs.laws.insert.Blossom.{numbers, ms, ns, made-clusters, vertex-holder-eq}
use Rattle.reachable.specs.Past.{Snapshot, Tops, Facts}
use Rattle.reachable.specs.laws.insert.BlossomLive.{no-parent-later}

-- the outermost nodes above, with the blossom n over the circle
unfoldable pub new_top : (ℕ → ℕ) → List ℕ → ℕ → ℕ → ℕ
new_top top circle n m = if member (top m) circle then n else top m

pub new-top-in : (top : ℕ → ℕ) (circle : List ℕ) (n m : ℕ) → member (top m) circle ≡ true → new_top top circle n m ≡ n
unfolding new_top
new-top-in top circle n m e = rw e

pub new-top-off : (top : ℕ → ℕ) (circle : List ℕ) (n m : ℕ) → member (top m) circle ≡ false → new_top top circle n m ≡ top m
unfolding new_top
new-top-off top circle n m e = rw e

owner-top : (c : State) (k : Labels) (top : ℕ → ℕ) (circle : List ℕ) (n u m : ℕ) → k.owner u ≡ top m
    → (blossom_labels c k circle n).owner u ≡ new_top top circle n m
unfolding new_top new_owner blossom_labels
owner-top c k top circle n u m e = rw e

module _ (c : State) (g : Invariant c) (x : ℕ) (circle : List ℕ) (ok : BlossomAccepted c x circle) (ready made : State)
    (prepared : CirclePreparing circle c ready []) (made_by : BlossomMade c x circle ready made) (top : ℕ → ℕ)
    (tops : Tops (record { state = ready; labels = prepared.labels; top = top })) where
  abbrev pub before : Snapshot
  before = record { state = ready; labels = prepared.labels; top = top }

  abbrev pub after : Snapshot
  after = record { state = made; labels = blossom_labels ready prepared.labels circle (node_count c); top = new_top top circle (node_count c) }

  nums : SoundNumbers made
  nums = numbers c g x circle ok ready made prepared made_by

  clusters : Clusters made (blossom_labels ready prepared.labels circle (node_count c))
  clusters = made-clusters c g x circle ok ready made prepared made_by

  cs : Members circle c ready prepared.labels
  cs = ms c g x circle ok ready made prepared made_by

  bs : BlossomNodes c circle ready made
  bs = ns c g x circle ok ready made prepared made_by

  end-eq : (t : ℕ) → end_at made t ≡ end_at ready t
  end-eq t = ap (λ (y : Graph). get_or y.end t 0) made_by.made-graph

  pub circle-below : (m : ℕ) → member m circle ≡ true → m < node_count c
  circle-below m h = omega (arith, cs.lists.inside m h, cs.lists.count)

  off-circle : (m : ℕ) → node_count c ≤ m → member m circle ≡ false
  off-circle m h = by-test (member m circle) (λ e. absurd (omega (arith, circle-below m e))) (λ e. e)

  pub top-beyond : (m : ℕ) → node_count c ≤ m → top m ≡ m
  top-beyond m h = tops.outer m (parent-beyond ready prepared.numbers.shape m (omega (arith, cs.lists.count)))

  pub top-circle : (m : ℕ) → member m circle ≡ true → top m ≡ m
  top-circle m h = tops.outer m (cs.lists.outer m h)

  new-beyond : (m : ℕ) → node_count c ≤ m → new_top top circle (node_count c) m ≡ m
  new-beyond m h = let e : top m ≡ m = top-beyond m h in new-top-off top circle (node_count c) m (rw e (off-circle m h)) ∙ e

  none-beyond : (m : ℕ) → node_count c ≤ m → parent_of made m ≡ 0
  none-beyond = no-parent-later c x circle ok ready made cs.lists made_by

  -- no node of `ready` lies in the new number
  not-in-new : (m j : ℕ) → parent_of ready m ≡ j + 1 → j < node_count c
  not-in-new m j e =
      by_cases (dec_lt j (node_count c)) (λ a. a)
      (λ a.
      let t : top m ≡ j = tops.inner m j e ∙ top-beyond j (omega arith) in
      by_cases (dec_lt m (node_count c))
      (λ b. absurd (omega (arith, tops.inside m (rw cs.lists.count b), cs.lists.count)))
      (λ b. absurd (omega (arith, parent-beyond ready prepared.numbers.shape m (omega (arith, cs.lists.count))))))

  -- whose parent is the new number is a member
  pub in-new : (m : ℕ) → parent_of made m ≡ node_count c + 1 → (m < node_count c) × (member m circle ≡ true)
  in-new m e =
      by_cases (dec_lt m (node_count c))
      (λ a. (a, by-test (member m circle) (λ h. h) (λ h. absurd (omega (arith, not-in-new m (node_count c) (sym (made_by.parent-off m a h) ∙ e))))))
      (λ a. absurd (omega (arith, none-beyond m (omega arith))))

  outer-after : (m : ℕ) → parent_of made m ≡ 0 → new_top top circle (node_count c) m ≡ m
  outer-after m e =
      by_cases (dec_lt m (node_count c))
      (λ a.
      let s = bs.still-outer m a e in
      let q : top m ≡ m = tops.outer m s.1 in
      new-top-off top circle (node_count c) m (rw q s.0) ∙ q)
      (λ a. new-beyond m (omega arith))

  inner-after : (m j : ℕ) → parent_of made m ≡ j + 1 → new_top top circle (node_count c) m ≡ new_top top circle (node_count c) j
  unfolding new_top
  inner-after m j e =
      by_cases (dec_lt m (node_count c))
      (λ a.
      by-test (member m circle)
      (λ h.
      let q : j ≡ node_count c = omega (arith, made_by.parent_in m a h) in
      let r : new_top top circle (node_count c) m ≡ node_count c = new-top-in top circle (node_count c) m (rw (top-circle m h) h) in
      r ∙ sym (new-beyond (node_count c) (omega arith)) ∙ ap (new_top top circle (node_count c)) (sym q))
      (λ h. let q : top m ≡ top j = tops.inner m j (sym (made_by.parent-off m a h) ∙ e) in rw q))
      (λ a. absurd (omega (arith, none-beyond m (omega arith))))

  over-after : (m : ℕ) → parent_of made (new_top top circle (node_count c) m) ≡ 0
  over-after m =
      by-test (member (top m) circle)
      (λ h. ap (parent_of made) (new-top-in top circle (node_count c) m h) ∙ made_by.parent-new)
      (λ h.
      ap (parent_of made) (new-top-off top circle (node_count c) m h)
      ∙ by_cases (dec_lt (top m) (node_count c)) (λ a. made_by.parent-off (top m) a h ∙ tops.over m) (λ a. none-beyond (top m) (omega arith)))

  inside-after : (m : ℕ) → m < node_count made → new_top top circle (node_count c) m < node_count made
  inside-after m b =
      ⊎_elim
      (λ (a : m < node_count c).
      by-test (member (top m) circle)
      (λ h. rw (new-top-in top circle (node_count c) m h) (omega (arith, made_by.made-count)))
      (λ h. rw (new-top-off top circle (node_count c) m h) (omega (arith, tops.inside m (rw cs.lists.count a), cs.lists.count, made_by.made-count))))
      (λ (a : m ≡ node_count c). rw (a, new-beyond (node_count c) (omega arith)) (omega (arith, made_by.made-count)))
      (bs.old-or-new m b)

  new-inside : node_count c < node_count made
  new-inside = omega (arith, made_by.made-count)

  pub made-tops : Tops after
  made-tops = record {
    outer = outer-after;
    inner = inner-after;
    over = over-after;
    inside = inside-after;
    side = λ t m e.
        by-test (member t (joined_lists ready circle))
        (λ h.
        let q : m ≡ node_count c = omega (arith, made_by.side-in t h) in
        (clusters.node (node_count c) new-inside made_by.parent-new).owner-side t (made_by.side-in t h)
        ∙ sym (new-beyond (node_count c) (omega arith)) ∙ ap (new_top top circle (node_count c)) (sym q))
        (λ h. rw (end-eq t) (owner-top ready prepared.labels top circle (node_count c) (end_at ready t) m (tops.side t m (sym (made_by.side-off t h) ∙ e))));
    vertex = λ u m e.
        owner-top ready prepared.labels top circle (node_count c) u m
        (tops.vertex u m (sym (vertex-holder-eq c g x circle ok ready made prepared made_by u) ∙ e));
  }

  pub made-facts : Facts after
  made-facts = record { numbers = nums; clusters = clusters; tops = made-tops }
