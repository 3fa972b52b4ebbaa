-- What a growing scan meets: the side at which it ended, and what that side says.
use Prim.Native.Nat.{ℕ, zero, suc, ◌+◌, ◌-◌, ◌/◌, ◌≤◌, min}
use Rattle.std.proofs.Common.{arith, sym, ap}
use Rattle.std.specs.Prelude.{◌≡◌, ◌≢◌, ◌⊎◌, List, [], ◌∷◌, negsuc, eqb}
use Rattle.std.proofs.Math.Path.{refl}
use Rattle.std.proofs.Math.Logic.{inl, inr, ⊎_elim}
use Rattle.std.proofs.Math.Bool.{Bool, true, false}
use Rattle.std.proofs.Math.IntN.{pos}
use borrow.Author.Tests.{eqb-true, eqb-false, ne_eqb, le-ltb}
use Rattle.graph.specs.Basic.{fold, member}
use Rattle.graph.specs.State.{State, opposite, passable, end_at, holder_at, virtual_at, grow_state_of, grown_over, weight_over, growing, shrinking, up}
use Rattle.graph.specs.laws.Members.{by-test, clash, member-head, member-tail}
use Rattle.answers.specs.Outcome.{Answer}
use Rattle.answers.specs.Outcome.{Length, Refused}
use Rattle.answers.specs.declared.MaxUpdateLength.TheVariants.{Conflicting, TouchingVirtual}
use Rattle.update_length.specs.Scan.{half, is_zero, lesser, Look, skip, room, meets, gap_of, look_peer, look_free, look_held, look_grow, look, Scan, open-ended, within, over, with_look, scan_step}

-- ---- where it ended

-- a side of the list that says a
pub record Met (c : State) (n d : ℕ) (l : List ℕ) (a : Answer) : Type 0 where
  pub side : ℕ
  pub listed : member side l ≡ true
  pub says : look c n d side ≡ meets a

further : {c : State} {n d s : ℕ} {l : List ℕ} {a : Answer} → Met c n d l a → Met c n d (s ∷ l) a
further {s = s} {l = l} m = record { side = m.side; listed = member-tail m.side s l m.listed; says = m.says }

-- of one step
joined-over : (r : Scan) (k : Look) (a : Answer) → with_look r k ≡ over a → (r ≡ over a) ⊎ (k ≡ meets a)
unfolding with_look
joined-over (over b) k a h = inl h
joined-over open-ended skip a h = inl h
joined-over open-ended (room x) a h = absurd (no h)
  where
    is_over : Scan → Bool
    is_over open-ended = false
    is_over (within l) = false
    is_over (over b) = true

    no : within x ≡ over a → ⊥
    no e = clash true refl (sym (ap is_over e))
joined-over open-ended (meets b) a h = inr (same h)
  where
    same : over b ≡ over a → meets b ≡ meets a
    same e = cc
joined-over (within b) skip a h = inl h
joined-over (within b) (room x) a h = absurd (no h)
  where
    is_over : Scan → Bool
    is_over open-ended = false
    is_over (within l) = false
    is_over (over b) = true

    no : within (lesser b x) ≡ over a → ⊥
    no e = clash true refl (sym (ap is_over e))
joined-over (within b) (meets d) a h = inr (same h)
  where
    same : over d ≡ over a → meets d ≡ meets a
    same e = cc

pub scan-met : (c : State) (n d : ℕ) (r : Scan) (l : List ℕ) (a : Answer) → fold (scan_step c n d) r l ≡ over a → (r ≡ over a) ⊎ Met c n d l a
unfolding fold scan_step
scan-met c n d r [] a h = inl h
scan-met c n d r (s ∷ l) a h =
    ⊎_elim
    (λ e. ⊎_elim inl (λ k. inr (record { side = s; listed = member-head s l; says = k })) (joined-over r (look c n d s) a e))
    (λ (m : Met c n d l a). inr (further m))
    (scan-met c n d (with_look r (look c n d s)) l a h)

-- ---- what one side says

-- the gap to the peer q that holds the far side is closed: nothing is left of it, or 1, which is halved to nothing, where q is Grow
abbrev pub Closed : State → ℕ → ℕ → Type 0
Closed c s q = (grown_over c s ≡ weight_over c s) ⊎ ((grow_state_of c q ≡ growing) × (grown_over c s + 1 ≡ weight_over c s))

pub data Saw (c : State) (n s : ℕ) : Look → Type 0 where
  own : holder_at c (opposite s) ≡ n + 1 → Saw c n s skip
  shrinks : (q : ℕ) → holder_at c (opposite s) ≡ q + 1 → grow_state_of c q ≡ shrinking → Saw c n s skip
  conflict : (q h k : ℕ) → holder_at c (opposite s) ≡ q + 1 → q ≢ n → Closed c s q → Saw c n s (meets (Length (Conflicting q h n k)))
  virtual : (k : ℕ) → holder_at c (opposite s) ≡ 0 → virtual_at c (end_at c (opposite s)) ≢ 0 → grown_over c s ≡ weight_over c s
      → Saw c n s (meets (Length (TouchingVirtual n k (end_at c (opposite s)))))
  unprepared : Saw c n s (meets (Refused 13))
  left : (l : ℕ) → Saw c n s (room (pos (suc l)))

module _ (c : State) (n s : ℕ) where
  free-saw : (k : ℕ) → weight_over c s ≡ grown_over c s + k → holder_at c (opposite s) ≡ 0 → Saw c n s (look_free c n s (pos k))
  unfolding look_free is_zero
  free-saw zero e h =
      by-test (passable c (end_at c (opposite s)))
      (λ q. rw q unprepared)
      (λ q. rw q (virtual _ h (eqb-false _ _ q) (omega arith)))
  free-saw (suc l) e h = rw (ne_eqb (suc l) 0 (λ z. absurd (omega arith))) (left l)

  module _ (q : ℕ) (h : holder_at c (opposite s) ≡ q + 1) (ne : q ≢ n) where
    peer-saw : (k : ℕ) → (k ≡ 0 → Closed c s q) → Saw c n s (look_peer c n s q (pos k))
    unfolding look_peer is_zero
    peer-saw zero t = conflict q _ _ h ne (t refl)
    peer-saw (suc l) t = rw (ne_eqb (suc l) 0 (λ z. absurd (omega arith))) (left l)

    held-saw : (k : ℕ) → weight_over c s ≡ grown_over c s + k → gap_of c s ≡ pos k → Saw c n s (look_held c n s q)
    unfolding look_held half
    held-saw k e g =
        by-test (eqb (grow_state_of c q) shrinking)
        (λ t. rw t (shrinks q h (eqb-true _ _ t)))
        (λ t.
        by-test (eqb (grow_state_of c q) growing)
        (λ u. rw (t, u, g) (peer-saw (k / 2) (λ z. halved k e z (eqb-true _ _ u))))
        (λ u. rw (t, u, g) (peer-saw k (λ z. inl (omega arith)))))
      where
        halved : (k : ℕ) → weight_over c s ≡ grown_over c s + k → k / 2 ≡ 0 → grow_state_of c q ≡ growing → Closed c s q
        halved zero e z u = inl (omega arith)
        halved (suc zero) e z u = inr (u, omega arith)
        halved (suc (suc k)) e z u = absurd (omega arith)

  pub saw : (holder_at c (opposite s) ≢ n + 1 → grown_over c s ≤ weight_over c s) → Saw c n s (look_grow c n s)
  unfolding look_grow gap_of
  saw fits =
      by-test (eqb (holder_at c (opposite s)) (n + 1))
      (λ e. rw e (own (eqb-true _ _ e)))
      (λ e.
      let w : grown_over c s ≤ weight_over c s = fits (eqb-false _ _ e) in
      let g : gap_of c s ≡ pos (weight_over c s - grown_over c s) = unfold gap_of in rw (le-ltb (weight_over c s) (grown_over c s) w) refl in
      by-test (eqb (holder_at c (opposite s)) 0)
      (λ z. rw (e, z, g) (free-saw (weight_over c s - grown_over c s) (omega arith) (eqb-true _ _ z)))
      (λ z.
      let ne : holder_at c (opposite s) ≢ 0 = eqb-false _ _ z in
      let no : holder_at c (opposite s) ≢ n + 1 = eqb-false _ _ e in
      rw (e, z) (held-saw (holder_at c (opposite s) - 1) (omega arith) (λ q. no (omega arith)) (weight_over c s - grown_over c s) (omega arith) g)))

-- ---- a free scan ends above 0

unfoldable above_zero : Scan → Bool
above_zero open-ended = true
above_zero (within (pos zero)) = false
above_zero (within (pos (suc l))) = true
above_zero (within (negsuc l)) = false
above_zero (over a) = true

joined-above : (c : State) (n s : ℕ) (r : Scan) (k : Look) → above_zero r ≡ true → Saw c n s k → above_zero (with_look r k) ≡ true
unfolding above_zero with_look lesser
joined-above c n s (over a) k h w = refl
joined-above c n s open-ended skip h w = refl
joined-above c n s open-ended (room x) h (left l) = refl
joined-above c n s open-ended (meets a) h w = refl
joined-above c n s (within b) skip h w = h
joined-above c n s (within (pos zero)) (room x) h (left l) = clash true refl (sym h)
joined-above c n s (within (pos (suc b))) (room x) h (left l) = least b l
  where
    least : (b l : ℕ) → above_zero (within (pos (min (suc b) (suc l)))) ≡ true
    least b l = let e : min (suc b) (suc l) ≡ suc (min b l) = omega arith in unfold above_zero in rw e refl
joined-above c n s (within (negsuc b)) (room x) h (left l) = clash true refl (sym h)
joined-above c n s (within b) (meets a) h w = refl

-- the sides of the list are none that another node holds beyond its weight
abbrev pub Within : State → ℕ → List ℕ → Type 0
Within c n l = (s : ℕ) → member s l ≡ true → holder_at c (opposite s) ≢ n + 1 → grown_over c s ≤ weight_over c s

scan-above : (c : State) (n : ℕ) (r : Scan) (l : List ℕ) → above_zero r ≡ true → Within c n l → above_zero (fold (scan_step c n up) r l) ≡ true
unfolding fold scan_step look
scan-above c n r [] h f = h
scan-above c n r (s ∷ l) h f =
    scan-above c n (with_look r (look_grow c n s)) l
    (joined-above c n s r (look_grow c n s) h (saw c n s (f s (member-head s l)))) (λ t m. f t (member-tail t s l m))

-- what a growing scan of the list ends with
pub data Ended (c : State) (n : ℕ) (l : List ℕ) : Scan → Type 0 where
  nothing-near : Ended c n l open-ended
  free-by : (m : ℕ) → Ended c n l (within (pos (suc m)))
  ended_at : {a : Answer} → Met c n up l a → Ended c n l (over a)

pub scan-ended : (c : State) (n : ℕ) (l : List ℕ) → Within c n l → Ended c n l (fold (scan_step c n up) open-ended l)
scan-ended c n l f = go (fold (scan_step c n up) open-ended l) refl (scan-above c n open-ended l (unfold above_zero in refl) f)
  where
    not_over : Scan → Bool
    not_over open-ended = true
    not_over (within x) = true
    not_over (over a) = false

    go : (r : Scan) → fold (scan_step c n up) open-ended l ≡ r → above_zero r ≡ true → Ended c n l r
    go open-ended e h = nothing-near
    go (within (pos zero)) e h = unfold above_zero in clash true refl (sym h)
    go (within (pos (suc m))) e h = free-by m
    go (within (negsuc m)) e h = unfold above_zero in clash true refl (sym h)
    go (over a) e h = ⊎_elim (λ q. absurd (clash true refl (sym (ap not_over (sym q))))) ended_at (scan-met c n up open-ended l a e)
