-- What the group's free length says of every active node; so a round by it, or by less, is refused 9 or 12 only.
use Rattle.std.specs.Prelude.{ℕ, ◌≤◌, ◌<◌, ◌≡◌, Bool, false, ◌&&◌, List, [], ◌∷◌, ℤ, eqb, ltb}
use Rattle.std.proofs.Common.{arith, sym, subst, le-ltb}
use Rattle.std.proofs.Math.Path.{refl}
use Rattle.std.proofs.Math.Bool.{true}
use Rattle.graph.specs.Basic.{fold, all, member}
use Rattle.graph.specs.State.{State, Overgrown, grow_state_of, overgrown_of, dual_of, with_active, growing, shrinking, up, down}
use Rattle.graph.specs.Active.{is_active, renewed, active_in}
use Rattle.graph.specs.laws.State.{and_left, and_right}
use Rattle.graph.specs.laws.Members.{by-test, both, clash, member-only, member-cons, member-nil}
use Rattle.graph.specs.laws.Active.{active-in}
use Rattle.growth.specs.Growth.{top_is}
use Rattle.answers.specs.Outcome.{Answer}
use Rattle.answers.specs.laws.Answer.{free-cases}
use Rattle.update_length.specs.Scan.{shrink_limit, scan}
use Rattle.update_length.specs.laws.Long.{long_as, lesser-long, answer_long, LeftDown, LeftUp, scan-down-long, scan-up-long}
use Rattle.calls.specs.Calls.{toward}
use Rattle.calls.specs.Round.{prepared_all, moved_all, answers_of, is_free, join_length, join_unlimited, join_free, group_of, group_refusal, group_length}
use Rattle.calls.specs.Group.{GroupMaxUpdateLength as Group}
use Rattle.calls.specs.Group.{NonZeroGrow as group_free, Unlimited as group_unlimited, Conflicts as group_conflicts, Refused as group_refused}
use Rattle.reachable.specs.Invariant.{Invariant}
use Rattle.reachable.specs.laws.Calls.{group-invariant}
use Rattle.reachable.specs.laws.Round.{Among}
use Rattle.reachable.specs.laws.Relied.{LongDown, round-relied}

-- the group leaves at least m
unfoldable pub group_long : ℕ → Group → Bool
group_long m (group_free l e) = long_as m l
group_long m (group_unlimited e) = true
group_long m (group_conflicts a b) = false
group_long m (group_refused k) = false

join-length : (m : ℕ) (g : Group) (k : ℤ) (f : Bool) → group_long m (join_length g k f) ≡ true → group_long m g && long_as m k ≡ true
unfolding group_long join_length
join-length m (group_free l e) k f h = lesser-long m l k h
join-length m (group_unlimited e) k f h = h
join-length m (group_conflicts a b) k f h = clash true refl (sym h)
join-length m (group_refused r) k f h = clash true refl (sym h)

join-unlimited : (m : ℕ) (g : Group) (f : Bool) → group_long m (join_unlimited g f) ≡ true → group_long m g && true ≡ true
unfolding group_long join_unlimited
join-unlimited m (group_free l e) f h = both (long_as m l) true h refl
join-unlimited m (group_unlimited e) f h = refl
join-unlimited m (group_conflicts a b) f h = clash true refl (sym h)
join-unlimited m (group_refused r) f h = clash true refl (sym h)

join_free_lem : (m : ℕ) (g : Group) (a : Answer) → is_free a ≡ true → group_long m (join_free g a) ≡ true → group_long m g && answer_long m a ≡ true
unfolding join_free answer_long
join_free_lem m g =
    free-cases (λ a. is_free a ≡ true → group_long m (join_free g a) ≡ true → group_long m g && answer_long m a ≡ true)
    (λ k f e h. join-length m g k f h) (λ f e h. join-unlimited m g f h) (λ a n e h. clash (is_free a) e n)

joined_free : (m : ℕ) (xs : List Answer) (g : Group) → all is_free xs ≡ true → group_long m (fold join_free g xs) ≡ true
    → group_long m g && all (answer_long m) xs ≡ true
unfolding all fold
joined_free m [] g e h = both (group_long m g) true h refl
joined_free m (a ∷ xs) g e h =
    let ih : group_long m (join_free g a) && all (answer_long m) xs ≡ true = joined_free m xs (join_free g a) (and_right (is_free a) (all is_free xs) e) h in
    let k : group_long m g && answer_long m a ≡ true = join_free_lem m g a (and_left (is_free a) (all is_free xs) e) (and_left (group_long m (join_free g a)) _ ih) in
    both (group_long m g) _ (and_left (group_long m g) _ k)
    (both (answer_long m a) _ (and_right (group_long m g) _ k) (and_right (group_long m (join_free g a)) _ ih))

group-of-long : (m : ℕ) (xs : List Answer) → group_long m (group_of xs) ≡ true → all (answer_long m) xs ≡ true
unfolding group_of group_long
group-of-long m xs h =
    by-test (all is_free xs)
    (λ e. and_right (group_long m (group_unlimited false)) _ (joined_free m xs (group_unlimited false) e (rw e at h)))
    (λ e. clash true refl (sym (rw e at h)))

-- the answer of each node
answer_at : (p : Answer → Bool) (c : State) (ns : List ℕ) (n : ℕ) → all p (answers_of c ns) ≡ true → member n ns ≡ true
    → p (scan c n (toward (grow_state_of c n))) ≡ true
unfolding answers_of all
answer_at p c [] n h i = member-nil n i
answer_at p c (k ∷ ns) n h i =
    member-cons n k ns i
    (λ e. rw e (and_left (p (scan c k (toward (grow_state_of c k)))) _ h))
    (λ e. answer_at p c ns n (and_right (p (scan c k (toward (grow_state_of c k)))) _ h) e)

-- ---- the group's reply

pub record GroupLeaves (m : ℕ) (c : State) : Type 0 where
  pub state : (group_length c).state ≡ (prepared_all c).state
  pub answers : all (answer_long m) (answers_of (prepared_all c).state (prepared_all c).state.active) ≡ true

pub group-leaves : (m : ℕ) (c : State) → group_long m (group_length c).group ≡ true → GroupLeaves m c
unfolding group_length group_long
group-leaves m c h =
    by-test (eqb (group_refusal (prepared_all c)) 0)
    (λ e. record { state = rw e refl; answers = group-of-long m _ (unfold group_long in (rw e at h)) })
    (λ e. clash true refl (sym (rw e at h)))

limit-left : (m y : ℕ) (st : List Overgrown) → m ≤ shrink_limit y st → (m ≤ y) × (top_is (λ a. ltb a m) st ≡ false)
unfolding shrink_limit top_is
limit-left m y [] h = (h, refl)
limit-left m y (o ∷ os) h = (omega arith, le-ltb o.amount m (omega arith))

left_down : (m : ℕ) (c : State) (n : ℕ) → LeftDown m c n → LongDown m (renewed c) n
unfolding renewed with_active
left_down m c n w = let l = limit-left m (dual_of c n) (overgrown_of c n) w.limit in record { dual = l.0; top = l.1; growth = λ s i. (w.growth s i).1 }

left_up : (m : ℕ) (c : State) (n : ℕ) → LeftUp m c n → LeftUp m (renewed c) n
unfolding renewed with_active
left_up m c n w = record { free = w.free; stay = w.stay; grow = w.grow }

-- a node of the renewed list stands in the list, in its state
renewed-in : (c : State) (x n : ℕ) → member n (active_in (renewed c) x) ≡ true → (member n c.active ≡ true) × (grow_state_of c n ≡ x)
unfolding renewed with_active
renewed-in c x n i = let a = active-in (renewed c) x n i in ((member-only (is_active c) c.active n a.0).0, a.1)

-- ---- the theorem: by the group's length or less

pub round-by-group : (c : State) → Invariant c → (m : ℕ) → 0 < m → group_long m (group_length c).group ≡ true
    → Among (0 ∷ 9 ∷ 12 ∷ []) (moved_all m (group_length c).state).refusal
round-by-group c g m z h =
    let l : GroupLeaves m c = group-leaves m c h in
    let c₁ : State = (prepared_all c).state in
    let g₁ : Invariant c₁ = subst Invariant l.state (group-invariant c g) in
    rw l.state
    (round-relied c₁ g₁ m z
    (λ n i. let a = renewed-in c₁ shrinking n i in
    left_down m c₁ n
    (scan-down-long m c₁ n
    (toward-down (grow_state_of c₁ n) a.1 (λ d. answer_long m (scan c₁ n d) ≡ true)
    (answer_at (answer_long m) c₁ c₁.active n l.answers a.0))))
    (λ n i. let a = renewed-in c₁ growing n i in
    left_up m c₁ n
    (scan-up-long m z c₁ n
    (toward-up (grow_state_of c₁ n) a.1 (λ d. answer_long m (scan c₁ n d) ≡ true)
    (answer_at (answer_long m) c₁ c₁.active n l.answers a.0)))))
  where
    toward-down : (x : ℕ) → x ≡ shrinking → (P : ℕ → Type 0) → P (toward x) → P down
    toward-down x e P p = unfold toward in (rw e at p)

    toward-up : (x : ℕ) → x ≡ growing → (P : ℕ → Type 0) → P (toward x) → P up
    toward-up x e P p = unfold toward in (rw e at p)
