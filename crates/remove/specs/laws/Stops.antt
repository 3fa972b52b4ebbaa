-- Laws behind the test of what stops an opening.
use Rattle.std.specs.Prelude.{ℕ, zero, suc, ◌+◌, ◌≤◌, ◌<◌, ◌≡◌, ◌≢◌, Bool, false, ◌&&◌, ◌||◌, not, eqb, get_or, set, replicate, take, if◌then◌else◌}
use Rattle.std.proofs.Math.Decide.{ℕ_discrete as dec_eq}
use Rattle.std.proofs.Common.{arith, ◌∙◌, subst, take_all, get_or-append-add}
use Rattle.std.proofs.Math.Numerals.{add-one}
use Rattle.std.proofs.Math.Path.{refl, sym, ap}
use Rattle.std.proofs.Math.Bool.{true}
use mathlib.Core.List.{List, [], ◌∷◌, ◌++◌, append-nil, append_assoc}
use Rattle.std.proofs.Math.Dec.{ltb}
use Rattle.std.proofs.Math.ListN.{length, length-append, get_or-append}
use borrow.Author.Tests.{eq-eqb, ne_eqb, ltb-true}
use Rattle.graph.specs.Basic.{all, any, member, only, below, distinct}
use Rattle.graph.specs.State.{State, node_count, side_count, holder_at, boundary_of, overgrown_of}
use Rattle.graph.specs.inner.Form.{sides_ok}
use Rattle.graph.specs.inner.Scans.{once_all, Carry}
use Rattle.graph.specs.laws.State.{and_left, and_right}
use Rattle.graph.specs.laws.Members.{by-test, member-head, member-tail, all_append}
use Rattle.graph.specs.laws.Opened.{get_d-zeros}
use Rattle.graph.specs.laws.Scan.{list-more, list_done, list-fails}
use Rattle.graph.specs.Shape.{Shape}
use Rattle.graph.specs.laws.Stamp.{carry-more, stamped-none, stamped-more, stamped-all, stamped-fails}
use Rattle.active_list.specs.laws.Renewal.{only-snoc}
use Rattle.calls.specs.Remove.{members_of, lists_of, unheld, stops_opening}
use Rattle.calls.proofs.laws.Remove.{of_members, unheld-held}
use Rattle.remove.specs.inner.Stops.{SidesIn, has_holder, free_by, member_lists, is_member, entries_before, Met}

pub not-both : (x y : Bool) → not x || not y ≡ not (x && y)
not-both true y = refl
not-both false y = refl

-- ---- marks

-- nothing is marked
pub carry-none : (m : ℕ) (l : List ℕ) → Carry 1 l 0 (replicate m 0)
unfolding member any
carry-none m l x h = rw (get_d-zeros m x)

-- the first i sides of node n are held and marked, and no other side is marked
pub record HeldTo (c : State) (n i : ℕ) (own : List ℕ) : Type 0 where
  pub carries : Carry 1 (boundary_of c n) i own
  pub held : all (has_holder c) (take i (boundary_of c n)) ≡ true

pub held_none : (c : State) (n : ℕ) (own : List ℕ) → Carry 1 (boundary_of c n) 0 own → HeldTo c n 0 own
unfolding all
held_none c n own k = record { carries = k; held = refl }

module _ {c : State} {n i : ℕ} {own : List ℕ} (q : HeldTo c n i own) where
  pub held-all-sides : length (boundary_of c n) ≤ i → true ≡ all (has_holder c) (boundary_of c n)
  held-all-sides h = list_done (has_holder c) (boundary_of c n) i h q.held

  pub held-carries : i ≡ length (boundary_of c n) → Carry 1 (boundary_of c n) (length (boundary_of c n)) own
  held-carries e = rw e at q.carries

  module _ (s : ℕ) (h : i < length (boundary_of c n)) (e : s ≡ get_or (boundary_of c n) i 0) where
    pub held_more : s < length own → holder_at c s ≢ 0 → HeldTo c n (i + 1) (set own s 1)
    unfolding has_holder
    held_more b ne = record {
      carries = carry-more 1 (boundary_of c n) i own s h e b q.carries;
      held = list-more (has_holder c) (boundary_of c n) i 0 h q.held (rw (← e, ne_eqb (holder_at c s) 0 ne));
    }

    pub held-not : holder_at c s ≡ 0 → false ≡ all (has_holder c) (boundary_of c n)
    unfolding has_holder
    held-not z = sym (list-fails (has_holder c) (boundary_of c n) i 0 h (rw (← e, eq-eqb (holder_at c s) 0 z)))

-- ---- the members' lists, one behind the other

lists-append : (c : State) (ms ns : List ℕ) → lists_of c (ms ++ ns) ≡ lists_of c ms ++ lists_of c ns
unfolding lists_of
lists-append c [] ns = refl
lists-append c (m ∷ ms) ns = rw (lists-append c ms ns) (sym (append_assoc (boundary_of c m) (lists_of c ms) (lists_of c ns)))

lists-one : (c : State) (m : ℕ) → lists_of c (m ∷ []) ≡ boundary_of c m
unfolding lists_of
lists-one c m = append-nil (boundary_of c m)

module _ (c : State) (n : ℕ) where
  abbrev members-below : ℕ → List ℕ
  members-below k = only (is_member c n) (below k)

  below_next : (m : ℕ) → members-below (m + 1) ≡ (if is_member c n m then members-below m ++ (m ∷ []) else members-below m)
  unfolding below
  below_next m = rw add-one (only-snoc (is_member c n) (below m) m)

  lists-next : (m : ℕ) → is_member c n m ≡ true → lists_of c (members-below (m + 1)) ≡ lists_of c (members-below m) ++ boundary_of c m
  lists-next m h =
      ap (lists_of c) (below_next m ∙ rw h refl) ∙ lists-append c (members-below m) (m ∷ [])
      ∙ ap (λ r. lists_of c (members-below m) ++ r) (lists-one c m)

  pub before-none : entries_before c n 0 ≡ 0
  unfolding entries_before below only lists_of
  before-none = refl

  pub before-member : (m : ℕ) → is_member c n m ≡ true → entries_before c n (m + 1) ≡ entries_before c n m + length (boundary_of c m)
  unfolding entries_before
  before-member m h = ap length (lists-next m h) ∙ length-append (lists_of c (members-below m)) (boundary_of c m)

  pub before-other : (m : ℕ) → is_member c n m ≡ false → entries_before c n (m + 1) ≡ entries_before c n m
  unfolding entries_before
  before-other m h = ap (λ (l : List ℕ). length (lists_of c l)) (below_next m ∙ rw h refl)

  -- entry i of member m's list, among the lists of the members below k
  abbrev At : ℕ → ℕ → ℕ → Type 0
  At m i k =
      (entries_before c n m + i < length (lists_of c (members-below k)))
      × (get_or (lists_of c (members-below k)) (entries_before c n m + i) 0 ≡ get_or (boundary_of c m) i 0)

  at_more : (m i k : ℕ) (l : List ℕ) → lists_of c (members-below (k + 1)) ≡ lists_of c (members-below k) ++ l → At m i k → At m i (k + 1)
  at_more m i k l e a = (
    rw (e, length-append (lists_of c (members-below k)) l) (omega (arith, a.0)),
    rw e (get_or-append (lists_of c (members-below k)) l 0 (entries_before c n m + i) a.0 ∙ a.1),
  )

  at_own : (m i : ℕ) → is_member c n m ≡ true → i < length (boundary_of c m) → At m i (m + 1)
  unfolding entries_before
  at_own m i h b = (
    rw (lists-next m h, length-append (lists_of c (members-below m)) (boundary_of c m)) (omega arith),
    rw (lists-next m h) (get_or-append-add (lists_of c (members-below m)) (boundary_of c m) i 0),
  )

  at-below : (m i k : ℕ) → is_member c n m ≡ true → i < length (boundary_of c m) → m < k → At m i k
  at-below m i zero h b l = absurd (omega arith)
  at-below m i (suc k) h b l =
      elim (dec_eq m k) [
        | yes e ↦ subst (At m i) (let z : m + 1 ≡ suc k = omega arith in z) (at_own m i h b)
        | no e ↦ subst (At m i) (let z : k + 1 ≡ suc k = omega arith in z)
            (by-test (is_member c n k)
            (λ t. at_more m i k (boundary_of c k) (lists-next k t) (at-below m i k h b (omega arith)))
            (λ t.
            let z : members-below (k + 1) ≡ members-below k = rw (below_next k, t) in
            rw z (at-below m i k h b (omega arith))))
      ]

  all-lists : lists_of c (members-below (node_count c)) ≡ member_lists c n
  unfolding members_of is_member
  all-lists = refl

  pub before-all : entries_before c n (node_count c) ≡ length (member_lists c n)
  unfolding entries_before
  before-all = ap length all-lists

  -- where entry i of member m's list stands among all
  module _ (m i : ℕ) (h : is_member c n m ≡ true) (b : i < length (boundary_of c m)) (l : m < node_count c) where
    pub entry-within : entries_before c n m + i < length (member_lists c n)
    entry-within = rw all-lists at (at-below m i (node_count c) h b l).0

    pub entry-at : get_or (boundary_of c m) i 0 ≡ get_or (member_lists c n) (entries_before c n m + i) 0
    entry-at = sym (rw all-lists at (at-below m i (node_count c) h b l).1)

-- ---- entry after entry

pub met-none : (c : State) (n : ℕ) (own : List ℕ) (k : ℕ) → Met c n own (entries_before c n 0) (replicate k 0)
met-none c n own k = rw (before-none c n) (stamped-none 0 (free_by c own) (member_lists c n) (replicate k 0) (λ x. omega (arith, get_d-zeros k x)))

pub met-other : (c : State) (n m : ℕ) (own met : List ℕ) → is_member c n m ≡ false
    → Met c n own (entries_before c n m) met → Met c n own (entries_before c n (m + 1)) met
met-other c n m own met h q = rw (before-other c n m h) q

pub met_all : (c : State) (n m : ℕ) (own met : List ℕ) → m ≡ node_count c → Met c n own (entries_before c n m) met
    → true ≡ once_all (free_by c own) (member_lists c n)
met_all c n m own met e q = stamped-all 1 (free_by c own) (member_lists c n) (entries_before c n m) met q (rw e (omega (arith, before-all c n)))

module _ (c : State) (n m : ℕ) (own met : List ℕ) (h : is_member c n m ≡ true) (l : m < node_count c) where
  pub met-list : (i : ℕ) → i ≡ length (boundary_of c m) → Met c n own (entries_before c n m + i) met → Met c n own (entries_before c n (m + 1)) met
  met-list i e q = rw (before-member c n m h, ← e) q

  module _ (i s : ℕ) (q : Met c n own (entries_before c n m + i) met) (b : i < length (boundary_of c m))
      (e : s ≡ get_or (boundary_of c m) i 0) (small : s < length met) where
    pub met-more : free_by c own s && not (eqb (get_or met s 0) 1) ≡ true → Met c n own (entries_before c n m + (i + 1)) (set met s 1)
    met-more f =
        let z : entries_before c n m + (i + 1) ≡ entries_before c n m + i + 1 = omega arith in
        rw z
        (stamped-more 1 (free_by c own) (member_lists c n) (entries_before c n m + i) met q s (entry-within c n m i h b l)
        (e ∙ entry-at c n m i h b l) small f)

    pub met-fails : free_by c own s && not (eqb (get_or met s 0) 1) ≡ false → false ≡ once_all (free_by c own) (member_lists c n)
    met-fails f =
        stamped-fails 1 (free_by c own) (member_lists c n) (entries_before c n m + i) met q s (entry-within c n m i h b l)
        (e ∙ entry-at c n m i h b l) small f

-- ---- a side that is free once those of the blossom are

module _ (c : State) (z : Shape c) (n : ℕ) (own : List ℕ) (room : side_count c ≤ length own)
    (k : Carry 1 (boundary_of c n) (length (boundary_of c n)) own) where
  own-member : (s : ℕ) → s < side_count c → eqb (get_or own s 0) 1 ≡ member s (boundary_of c n)
  own-member s b = k s (omega arith) ∙ ap (member s) (take_all (length (boundary_of c n)) (boundary_of c n) (omega arith))

  free-is : (s : ℕ) → s < side_count c → eqb (holder_at (unheld c n) s) 0 ≡ free_by c own s
  unfolding free_by
  free-is s b =
      by-test (member s (boundary_of c n))
      (λ m. rw ((unheld-held c n).at s m (omega (arith, z.holder)), own-member s b, m))
      (λ m. rw ((unheld-held c n).off s m, own-member s b, m))

  -- of the sides in a list that holds sides
  frees : (l : List ℕ) → all (λ s. ltb s (side_count c)) l ≡ true
      → any (λ s. not (eqb (holder_at (unheld c n) s) 0)) l ≡ not (all (free_by c own) l)
  unfolding any all
  frees [] h = refl
  frees (s ∷ l) h =
      let b : s < side_count c = ltb-true s (side_count c) (and_left (ltb s (side_count c)) (all (λ t. ltb t (side_count c)) l) h) in
      rw (free-is s b, frees l (and_right (ltb s (side_count c)) (all (λ t. ltb t (side_count c)) l) h)) (not-both (free_by c own s) (all (free_by c own) l))

lists-in : (c : State) → SidesIn c → (ms : List ℕ) → ((m : ℕ) → member m ms ≡ true → m < node_count c) → all (λ s. ltb s (side_count c)) (lists_of c ms) ≡ true
unfolding lists_of all sides_ok
lists-in c f [] h = refl
lists-in c f (m ∷ ms) h =
    all_append (λ s. ltb s (side_count c)) (boundary_of c m) (lists_of c ms) (f m (h m (member-head m ms)))
    (lists-in c f ms (λ i k. h i (member-tail i m ms k)))

-- ---- the whole test

-- a listed side has no holder
held_all : (c : State) (l : List ℕ) → any (λ s. eqb (holder_at c s) 0) l ≡ not (all (has_holder c) l)
unfolding any all has_holder
held_all c [] = refl
held_all c (s ∷ l) = rw (held_all c l) (go (eqb (holder_at c s) 0) (all (has_holder c) l))
  where
    go : (x y : Bool) → x || not y ≡ not (not x && y)
    go true y = refl
    go false y = refl

module _ (c : State) (z : Shape c) (f : SidesIn c) (n : ℕ) where
  pub stops-overgrown : length (overgrown_of c n) ≢ 0 → true ≡ stops_opening c n
  unfolding stops_opening
  stops-overgrown h = rw (ne_eqb (length (overgrown_of c n)) 0 h)

  pub stops-unheld : length (overgrown_of c n) ≡ 0 → all (has_holder c) (boundary_of c n) ≡ false → true ≡ stops_opening c n
  unfolding stops_opening
  stops-unheld o h = rw (eq-eqb (length (overgrown_of c n)) 0 o, held_all c (boundary_of c n), h)

  pub stops-members : (own : List ℕ) → side_count c ≤ length own → Carry 1 (boundary_of c n) (length (boundary_of c n)) own
      → length (overgrown_of c n) ≡ 0 → all (has_holder c) (boundary_of c n) ≡ true → {r : Bool} → r ≡ once_all (free_by c own) (member_lists c n)
      → not r ≡ stops_opening c n
  unfolding stops_opening once_all
  stops-members own room k o h e =
      let l : all (λ s. ltb s (side_count c)) (member_lists c n) ≡ true = lists-in c f (members_of c n) (λ m q. (of_members c n m q).0) in
      rw (e, eq-eqb (length (overgrown_of c n)) 0 o, held_all c (boundary_of c n), h, frees c z n own room k (member_lists c n) l)
      (sym (not-both (distinct (member_lists c n)) (all (free_by c own) (member_lists c n))))
