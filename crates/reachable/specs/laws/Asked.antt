-- After an accepted preparation of all no active node answers a refusal, and a length that it answers is above 0.
use Rattle.std.specs.Prelude.{ℕ, ◌+◌, ◌-◌, ◌/◌, ◌≤◌, ◌<◌, min, ◌≡◌, ◌≢◌, Bool, false, ◌&&◌, ℤ, pos, negsuc, eqb, ltb, get_or}
use Rattle.std.proofs.Common.{arith, sym, ap, ◌∙◌, ⊎_elim}
use Rattle.std.proofs.Math.Decide.{ℕ_discrete as dec_eq}
use Rattle.std.proofs.Math.Path.{refl}
use Rattle.std.proofs.Math.Logic.{by_cases}
use Rattle.std.proofs.Math.Bool.{true}
use mathlib.Core.List.{List, [], ◌∷◌}
use borrow.Author.Tests.{eqb-true, eqb-false, ne_eqb, le-leb, leb-true}
use Rattle.graph.specs.Basic.{fold, any, all, member, distinct}
use Rattle.graph.specs.State.{State, Overgrown, opposite, node_count, side_count, end_at, holder_at, growth_at, virtual_at, class_of, grow_state_of, dual_of, boundary_of, overgrown_of, grown_over, weight_over, with_active, growing, shrinking, up, down}
use Rattle.graph.specs.Active.{renewed, active_in}
use Rattle.graph.specs.laws.State.{if-both, if-cases, fold-keeps-on}
use Rattle.graph.specs.laws.Members.{by-test, both, clash, all_from, member-head, member-tail, member-cons, distinct_tail}
use Rattle.graph.specs.laws.Shape.{sound-active}
use Rattle.graph.specs.laws.Active.{active-in, in-active, active-in-once, active-below, renewed-active}
use Rattle.pass.specs.Prepare.{prepare_node}
use Rattle.pass.proofs.laws.Passes.{Passed}
use Rattle.pass.proofs.laws.Prepare.{prepare-passed}
use Rattle.pass.proofs.laws.Idle.{TopLeft, top-amount}
use Rattle.pass.proofs.laws.Leaves.{prepare-top-left, prepare-frees-none}
use Rattle.answers.specs.Outcome.{Answer}
use Rattle.answers.specs.Outcome.{Length}
use Rattle.answers.specs.Answer.{Reply, free_or, is_free, accepted}
use Rattle.answers.specs.laws.Answer.{free_other}
use Rattle.update_length.specs.Scan.{half, is_zero, lesser, Look, skip, room, meets, gap_of, look_peer, look_free, look_held, look_grow, look_shrink, look, Scan, open-ended, within, over, with_look, scan_step, is_empty, scan_answer, scan_boundary, stop_answer, shrink_limit, scan}
use Rattle.update_length.specs.laws.Scanning.{gap_within}
use Rattle.update_length.specs.laws.Long.{long_as, stop-short}
use Rattle.calls.specs.Refuse.{node_refusal, store_short}
use Rattle.calls.specs.Calls.{toward, prepare_dual_node_growth}
use Rattle.calls.specs.Round.{Tried, refusal_of, try_all, preparing, prepared_all, answers_of}
use Rattle.calls.proofs.laws.Trial.{unless-accepted, begun, Turned, turn-accepted}
use Rattle.reachable.specs.Invariant.{Invariant}
use Rattle.reachable.specs.laws.state.Numbers.{numbers-end}
use Rattle.reachable.specs.laws.prepare.FinishedState.{NothingToTake}
use Rattle.reachable.specs.laws.prepare.Preparation.{PreparedDown, prepare-up, prepare-down, invariant-ready, invariant-numbers}
use Rattle.reachable.specs.laws.Active.{renewed-invariant}
use Rattle.reachable.specs.laws.Round.{Among, Along, prepare-along, Free, listed_free, free-along}
use Rattle.reachable.specs.laws.TrialSteps.{next-among, try-none}

-- ---- answers that are no refusal, and whose length is above 0

unfoldable pub fine : Answer → Bool
fine a = accepted a && free_or true (λ l e. long_as 1 l) (λ e. true) a

fine_of : (a : Answer) → accepted a ≡ true → is_free a ≡ false → fine a ≡ true
unfolding fine
fine_of a h k = both (accepted a) _ h (free_other true (λ l e. long_as 1 l) (λ e. true) a k)

unfoldable look_fine : Look → Bool
look_fine skip = true
look_fine (room l) = long_as 1 l
look_fine (meets a) = fine a

unfoldable scan_fine : Scan → Bool
scan_fine open-ended = true
scan_fine (within l) = long_as 1 l
scan_fine (over a) = fine a

pub lesser-fine : (a b : ℤ) → long_as 1 a ≡ true → long_as 1 b ≡ true → long_as 1 (lesser a b) ≡ true
unfolding long_as lesser
lesser-fine (pos a) (pos b) h k = let x = leb-true 1 a h in let y = leb-true 1 b k in le-leb 1 (min a b) (omega arith)
lesser-fine (pos a) (negsuc b) h k = k
lesser-fine (negsuc a) (pos b) h k = h
lesser-fine (negsuc a) (negsuc b) h k = clash true refl (sym h)

join-fine : (r : Scan) (l : Look) → scan_fine r ≡ true → look_fine l ≡ true → scan_fine (with_look r l) ≡ true
unfolding scan_fine look_fine with_look
join-fine (over a) l p q = p
join-fine open-ended skip p q = refl
join-fine open-ended (room x) p q = q
join-fine open-ended (meets a) p q = q
join-fine (within b) skip p q = p
join-fine (within b) (room x) p q = lesser-fine b x p q
join-fine (within b) (meets a) p q = q

answer-fine : (e : Bool) (r : Scan) → scan_fine r ≡ true → fine (scan_answer e r) ≡ true
unfolding scan_fine scan_answer fine accepted
answer-fine e open-ended p = refl
answer-fine e (within l) p = p
answer-fine e (over a) p = p

boundary-fine : (c : State) (n d : ℕ) (r : Scan) → scan_fine r ≡ true
    → ((s : ℕ) → member s (boundary_of c n) ≡ true → look_fine (look c n d s) ≡ true) → fine (scan_boundary c n d r) ≡ true
unfolding scan_boundary scan_step
boundary-fine c n d r p f =
    answer-fine (is_empty (boundary_of c n)) (fold (scan_step c n d) r (boundary_of c n))
    (fold-keeps-on (scan_step c n d) (λ s. look_fine (look c n d s)) (λ (x : Scan). scan_fine x ≡ true)
    (λ x s q g. join-fine x (look c n d s) g q) r (boundary_of c n)
    (all_from (λ s. look_fine (look c n d s)) (boundary_of c n) f) p)

one_more : (x : ℕ) → x ≢ 0 → long_as 1 (pos x) ≡ true
unfolding long_as
one_more x ne = le-leb 1 x (omega arith)

not_in : (k : ℕ) → member k [] ≡ false
unfolding member any
not_in k = refl

pub zero-nine : Among (0 ∷ 9 ∷ []) 0
unfolding member any
zero-nine = refl

-- ---- a node prepared for shrinking

pub record DownReady (c : State) (n : ℕ) : Type 0 where
  pub sides : dual_of c n ≢ 0 → (s : ℕ) → member s (boundary_of c n) ≡ true → growth_at c s ≢ 0
  pub top : TopLeft (overgrown_of c n)

limit-left : (y : ℕ) (st : List Overgrown) → y ≢ 0 → TopLeft st → shrink_limit y st ≢ 0
unfolding shrink_limit
limit-left y [] ne t = ne
limit-left y (o ∷ os) ne t = let a : o.amount ≢ 0 = top-amount o os t in λ e. omega arith

shrink-look : (c : State) (n s : ℕ) → growth_at c s ≢ 0 → look_fine (look c n down s) ≡ true
unfolding look look_shrink look_fine
shrink-look c n s ne = rw (ne_eqb (growth_at c s) 0 ne) (one_more (growth_at c s) ne)

within-fine : (x : ℕ) → x ≢ 0 → scan_fine (within (pos x)) ≡ true
unfolding scan_fine
within-fine x ne = one_more x ne

down-fine : (c : State) (n : ℕ) → DownReady c n → fine (scan c n down) ≡ true
unfolding scan
down-fine c n p =
    if-cases (λ (a : Answer). fine a ≡ true) (eqb (dual_of c n) 0)
    (λ z. fine_of (Length (stop_answer c n (class_of c n))) (unfold accepted in refl) (stop-short c n (class_of c n)))
    (λ z.
    let y : dual_of c n ≢ 0 = eqb-false _ _ z in
    boundary-fine c n down (within (pos (shrink_limit (dual_of c n) (overgrown_of c n))))
    (within-fine (shrink_limit (dual_of c n) (overgrown_of c n)) (limit-left (dual_of c n) (overgrown_of c n) y p.top))
    (λ s m. shrink-look c n s (p.sides y s m)))

-- ---- a node prepared for growing

peer-fine : (c : State) (n s p j : ℕ) → look_fine (look_peer c n s p (pos j)) ≡ true
unfolding look_peer look_fine fine accepted is_zero
peer-fine c n s p j = if-cases (λ (x : Look). look_fine x ≡ true) (eqb j 0) (λ e. refl) (λ e. one_more j (eqb-false j 0 e))

free-fine : (c : State) (n s k : ℕ) → (k ≡ 0 → virtual_at c (end_at c (opposite s)) ≢ 0) → look_fine (look_free c n s (pos k)) ≡ true
unfolding look_free look_fine fine accepted is_zero
free-fine c n s k f =
    by-test (eqb k 0)
    (λ e. rw (e, ne_eqb (virtual_at c (end_at c (opposite s))) 0 (f (eqb-true k 0 e))) refl)
    (λ e. rw e (one_more k (eqb-false k 0 e)))

held-fine : (c : State) (n s p k : ℕ) → gap_of c s ≡ pos k → look_fine (look_held c n s p) ≡ true
unfolding look_held look_fine half
held-fine c n s p k e =
    if-both (λ (x : Look). look_fine x ≡ true) (eqb (grow_state_of c p) shrinking) refl
    (rw e (by-test (eqb (grow_state_of c p) growing) (λ q. rw q (peer-fine c n s p (k / 2))) (λ q. rw q (peer-fine c n s p k))))

grow-look : (c : State) (n s : ℕ) → (holder_at c (opposite s) ≢ n + 1 → grown_over c s ≤ weight_over c s)
    → (holder_at c (opposite s) ≡ 0 → grown_over c s ≡ weight_over c s → virtual_at c (end_at c (opposite s)) ≢ 0)
    → look_fine (look_grow c n s) ≡ true
unfolding look_grow look_fine
grow-look c n s le f =
    if-cases (λ (x : Look). look_fine x ≡ true) (eqb (holder_at c (opposite s)) (n + 1)) (λ e. refl)
    (λ e.
    let w : grown_over c s ≤ weight_over c s = le (eqb-false _ _ e) in
    let g : gap_of c s ≡ pos (weight_over c s - grown_over c s) = gap_within c s w in
    if-cases (λ (x : Look). look_fine x ≡ true) (eqb (holder_at c (opposite s)) 0)
    (λ q. rw g (free-fine c n s (weight_over c s - grown_over c s) (λ z. f (eqb-true _ _ q) (omega arith))))
    (λ q. held-fine c n s (holder_at c (opposite s) - 1) (weight_over c s - grown_over c s) g))

open-fine : scan_fine open-ended ≡ true
unfolding scan_fine
open-fine = refl

up-fine : (c : State) → Invariant c → (n : ℕ) → Free c n → NothingToTake c n → fine (scan c n up) ≡ true
unfolding scan
up-fine c g n f t =
    boundary-fine c n up open-ended open-fine
    (λ s m. up-look s (grow-look c n s
    (λ ne.
    let own : holder_at c s ≡ n + 1 = g.clusters.boundary-held n f.inside f.outer s m in
    let b : s < side_count c = (g.clusters.node n f.inside f.outer).within s m in
    ⊎_elim (λ (a : grown_over c s ≤ weight_over c s). a)
    (λ (a : (holder_at c s ≢ 0) × (holder_at c (opposite s) ≡ holder_at c s)). absurd (ne (a.1 ∙ own)))
    (g.clusters.global.within-weight s b))
    (λ e q. t s m e q)))
  where
    up-look : (s : ℕ) → look_fine (look_grow c n s) ≡ true → look_fine (look c n up s) ≡ true
    up-look s h = unfold look in h

-- ---- kept while other nodes are prepared

down-other : (c d : State) (n q : ℕ) → Passed q c d → n ≢ q → DownReady c n → DownReady d n
down-other c d n q p ne h =
    record {
      sides = λ y s m. rw p.growth (h.sides (λ e. y (rw p.dual e)) s (rw (p.boundaries n ne) at m));
      top = rw (p.overgrowns n ne) h.top;
    }

up-other : (c : State) (n q : ℕ) → n ≢ q → NothingToTake c n → NothingToTake (prepare_node c q up).state n
up-other c n q ne h s m e f =
    let p : Passed q c (prepare_node c q up).state = prepare-passed c q up in
    rw p.graph (h s (rw (p.boundaries n ne) at m) (prepare-frees-none c q (opposite s) e) (rw (p.growth, p.graph) at f))

-- ---- what a preparation leaves of its own node

down-here : (c : State) → Invariant c → (n : ℕ) → Free c n → DownReady (prepare_node c n down).state n
down-here c g n f =
    let d : State = (prepare_node c n down).state in
    let r : PreparedDown n c g.labels d = prepare-down n down c g.labels refl c (invariant-ready c g n f.inside f.outer) in
    let k = r.held-ready.labels in
    let i = r.held-ready.ready.clusters.node n r.held-ready.ready.inside r.held-ready.ready.outer in
    record {
      sides = λ y s m q.
          let h : holder_at (prepare_node c n down).state s ≡ n + 1 = r.held-ready.boundary-held s m in
          let lv : k.depth (end_at (prepare_node c n down).state s) + growth_at (prepare_node c n down).state s
          ≡ k.base n + dual_of (prepare_node c n down).state n =
          i.listed-growth s m h in
          let b : k.depth (end_at (prepare_node c n down).state s) ≤ k.base n = i.defect-within-base s h (r.zero-at-defects s m q) in
          y (omega arith);
      top = prepare-top-left c n (λ s. rw g.shape.vertex_holder (numbers-end c (invariant-numbers g) s))
          g.shape.vertex_holder (rw g.shape.overgrown f.inside);
    }

up-here : (c : State) → Invariant c → (n : ℕ) → Free c n → NothingToTake (prepare_node c n up).state n
up-here c g n f = (prepare-up n up c g.labels refl c (invariant-ready c g n f.inside f.outer)).nothing-to-take

prepare-done : (c : State) (n d : ℕ) → refusal_of (prepare_dual_node_growth c n d).answer ≡ 0 → (prepare_dual_node_growth c n d).state ≡ (prepare_node c n d).state
unfolding prepare_dual_node_growth
prepare-done c n d h = ap (λ (r : Reply). r.state) (unless-accepted (node_refusal c n (ltb up d) (store_short c (n ∷ []) 1)) c _ h).1

-- ---- along the preparation of all, from the renewed state r

module _ (r : State) (g : Invariant r) where
  -- the Shrink nodes ms and the Grow nodes ns are still to come
  record Readied (ms ns : List ℕ) (d : State) : Type 0 where
    along : Along r d
    active : d.active ≡ r.active
    downs : (n : ℕ) → member n (active_in r shrinking) ≡ true → member n ms ≡ false → DownReady d n
    ups : (n : ℕ) → member n (active_in r growing) ≡ true → member n ns ≡ false → NothingToTake d n

  still-out : (q n : ℕ) (ms : List ℕ) → q ≢ n → member q ms ≡ false → member q (n ∷ ms) ≡ false
  still-out q n ms ne k = by-test (member q (n ∷ ms)) (λ j. member-cons q n ms j (λ v. absurd (ne v)) (λ v. clash (member q ms) v k)) (λ j. j)

  -- two lists of nodes in different states
  apart : (x y q n : ℕ) → x ≢ y → member q (active_in r x) ≡ true → member n (active_in r y) ≡ true → q ≢ n
  apart x y q n ne i j e = ne (sym (active-in r x q i).1 ∙ ap (grow_state_of r) e ∙ (active-in r y n j).1)

  shrink-readied : (ns ms : List ℕ) (d : State) → ((q : ℕ) → member q (active_in r growing) ≡ true → member q ns ≡ true)
      → Readied ms ns d → distinct ms ≡ true → ((n : ℕ) → member n ms ≡ true → member n (active_in r shrinking) ≡ true)
      → (try_all (preparing down) (begun d) ms).refusal ≡ 0 → Readied [] ns (try_all (preparing down) (begun d) ms).state
  unfolding preparing
  shrink-readied ns [] d full p w k = rw (try-none (preparing down) (begun d)) (λ e. p)
  shrink-readied ns (n ∷ ms) d full p w k =
      let i : member n (active_in r shrinking) ≡ true = k n (member-head n ms) in
      let f : Free d n = free-along p.along (listed_free r g shrinking n (λ j. omega arith) i) in
      let q : Passed n d (prepare_node d n down).state = prepare-passed d n down in
      next-among [] (preparing down) d n ms (λ (t : Tried). t.refusal ≡ 0 → Readied [] ns t.state)
      (λ t ne e z. absurd (ne z))
      (λ ok.
      let e : (prepare_dual_node_growth d n down).state ≡ (prepare_node d n down).state = prepare-done d n down ok in
      let al : Along r (prepare_dual_node_growth d n down).state = prepare-along r d n down p.along in
      let next : Readied ms ns (prepare_dual_node_growth d n down).state =
      rw e (record {
        along = rw e at al;
        active = q.active ∙ p.active;
        downs = λ m j o. by_cases (dec_eq m n) (λ u. rw u (down-here d p.along.invariant n f))
            (λ u. down-other d (prepare_node d n down).state m n q u (p.downs m j (still-out m n ms u o)));
        ups = λ m j o. clash (member m ns) (full m j) o;
      }) in
      shrink-readied ns ms (prepare_dual_node_growth d n down).state full next (distinct_tail n ms w) (λ m j. k m (member-tail m n ms j)))

  grow-readied : (ns : List ℕ) (d : State) → Readied [] ns d → distinct ns ≡ true → ((n : ℕ) → member n ns ≡ true → member n (active_in r growing) ≡ true)
      → (try_all (preparing up) (begun d) ns).refusal ≡ 0 → Readied [] [] (try_all (preparing up) (begun d) ns).state
  unfolding preparing
  grow-readied [] d p w k = rw (try-none (preparing up) (begun d)) (λ e. p)
  grow-readied (n ∷ ns) d p w k =
      let i : member n (active_in r growing) ≡ true = k n (member-head n ns) in
      let f : Free d n = free-along p.along (listed_free r g growing n (λ j. omega arith) i) in
      let q : Passed n d (prepare_node d n up).state = prepare-passed d n up in
      next-among [] (preparing up) d n ns (λ (t : Tried). t.refusal ≡ 0 → Readied [] [] t.state)
      (λ t ne e z. absurd (ne z))
      (λ ok.
      let e : (prepare_dual_node_growth d n up).state ≡ (prepare_node d n up).state = prepare-done d n up ok in
      let al : Along r (prepare_dual_node_growth d n up).state = prepare-along r d n up p.along in
      let next : Readied [] ns (prepare_dual_node_growth d n up).state =
      rw e (record {
        along = rw e at al;
        active = q.active ∙ p.active;
        downs = λ m j o. down-other d (prepare_node d n up).state m n q (apart shrinking growing m n (λ v. omega arith) j i) (p.downs m j o);
        ups = λ m j o. by_cases (dec_eq m n) (λ u. rw u (up-here d p.along.invariant n f)) (λ u. up-other d m n u (p.ups m j (still-out m n ns u o)));
      }) in
      grow-readied ns (prepare_dual_node_growth d n up).state next (distinct_tail n ns w) (λ m j. k m (member-tail m n ns j)))

  begins : Readied (active_in r shrinking) (active_in r growing) r
  begins = record {
    along = record { invariant = g; class = refl; grow_state = refl; parent = refl };
    active = refl;
    downs = λ n i o. clash (member n (active_in r shrinking)) i o;
    ups = λ n i o. clash (member n (active_in r growing)) i o;
  }

all-readied : (c : State) (gc : Invariant c) → (prepared_all c).refusal ≡ 0 → Readied (renewed c) (renewed-invariant c gc) [] [] (prepared_all c).state
unfolding prepared_all
all-readied c gc h =
    let r : State = renewed c in
    let g : Invariant r = renewed-invariant c gc in
    let t : Turned (preparing down) (preparing up) c = turn-accepted (preparing down) (preparing up) c h in
    let ms : List ℕ = active_in r shrinking in
    let ns : List ℕ = active_in r growing in
    let p = shrink-readied r g ns ms r (λ q i. i) (begins r g) (active-in-once r shrinking (sound-active r g.sounds)) (λ n i. i) t.shrunk in
    rw t.state
    (grow-readied r g ns (try_all (preparing down) (begun r) ms).state p
    (active-in-once r growing (sound-active r g.sounds)) (λ n i. i) t.grown)

-- ---- every active node's answer

answers-from : (p : Answer → Bool) (c : State) (ns : List ℕ)
    → ((n : ℕ) → member n ns ≡ true → p (scan c n (toward (grow_state_of c n))) ≡ true) → all p (answers_of c ns) ≡ true
unfolding answers_of all
answers-from p c [] f = refl
answers-from p c (n ∷ ns) f =
    both (p (scan c n (toward (grow_state_of c n)))) _ (f n (member-head n ns))
    (answers-from p c ns (λ m i. f m (member-tail m n ns i)))

toward-is : (P : ℕ → Type 0) (x : ℕ) → x ≢ 0 → x ≤ 2 → (x ≡ shrinking → P down) → (x ≡ growing → P up) → P (toward x)
unfolding toward
toward-is P x ne le a b = if-cases P (eqb x growing) (λ e. b (eqb-true x growing e)) (λ e. a (let k : x ≢ 1 = eqb-false x growing e in omega arith))

pub answers-fine : (c : State) → Invariant c → (prepared_all c).refusal ≡ 0 → all fine (answers_of (prepared_all c).state (prepared_all c).state.active) ≡ true
answers-fine c gc h =
    let r : State = renewed c in
    let g : Invariant r = renewed-invariant c gc in
    let c₁ : State = (prepared_all c).state in
    let p : Readied (renewed c) (renewed-invariant c gc) [] [] c₁ = all-readied c gc h in
    answers-from fine c₁ c₁.active
    (λ n m.
    let i : member n r.active ≡ true = rw p.active at m in
    let b : n < node_count r = active-below r (sound-active r g.sounds) n i in
    let s : grow_state_of c₁ n ≡ grow_state_of r n = ap (λ (l : List ℕ). get_or l n 0) p.along.grow_state in
    let ne : grow_state_of r n ≢ 0 = λ e. renewed-active c n i (same c n ∙ e) in
    let le : grow_state_of r n ≤ 2 = ((invariant-numbers g).nodes n b).grow_state in
    rw s
    (toward-is (λ d. fine (scan c₁ n d) ≡ true) (grow_state_of r n) ne le
    (λ x. down-fine c₁ n (p.downs n (in-active r shrinking n i x) (not_in n)))
    (λ x. let j : member n (active_in r growing) ≡ true = in-active r growing n i x in
    up-fine c₁ p.along.invariant n (free-along p.along (listed_free r g growing n (λ v. omega arith) j))
    (p.ups n j (not_in n)))))
  where
    same : (c : State) (n : ℕ) → grow_state_of c n ≡ grow_state_of (renewed c) n
    same c n = unfold renewed with_active in refl
