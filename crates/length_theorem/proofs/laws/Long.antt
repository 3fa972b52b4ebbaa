-- What a scan that ends free says of each boundary side.
use Rattle.std.specs.Prelude.{ℕ, zero, suc, ◌+◌, ◌-◌, ◌/◌, ◌≤◌, ◌<◌, min, ◌≡◌, refl, ◌≢◌, Bool, true, false, ◌&&◌, List, [], ◌∷◌, ℤ, pos, negsuc, neg_ℤ, eqb, leb, ltb}
use Rattle.std.proofs.Common.{arith, sym, ne_eqb, leb-true, le-leb, ltb-false}
use Rattle.std.proofs.Math.IntN.{sub_ℕ}
use Rattle.std.proofs.lemmas.Bool.{eqb-false}
use Rattle.graph.specs.Basic.{fold, all, member}
use Rattle.graph.specs.State.{State, opposite, passable, holder_at, end_at, grow_state_of, boundary_of, grown_over, weight_over, growing, shrinking}
use Rattle.graph.specs.laws.State.{and_left, and_right, if-cases}
use Rattle.graph.specs.laws.Members.{both, by-test, clash}
use Rattle.update_length.specs.Scan.{half, is_zero, lesser, Look, skip, room, meets, gap_of, look_peer, look_free, look_held, look_grow, look, Scan, open-ended, within, over, with_look, scan_step}

-- ---- lengths

-- a length is at least m
unfoldable pub long_as : ℕ → ℤ → Bool
long_as m (pos x) = leb m x
long_as m (negsuc x) = false

unfoldable pub scan_long : ℕ → Scan → Bool
scan_long m open-ended = true
scan_long m (within l) = long_as m l
scan_long m (over a) = false

unfoldable pub look_long : ℕ → Look → Bool
look_long m skip = true
look_long m (room l) = long_as m l
look_long m (meets a) = false

lesser-long : (m : ℕ) (a b : ℤ) → long_as m (lesser a b) ≡ true → long_as m a && long_as m b ≡ true
unfolding long_as lesser
lesser-long m (pos a) (pos b) h = let k : m ≤ min a b = leb-true m (min a b) h in both (leb m a) (leb m b) (le-leb m a (omega arith)) (le-leb m b (omega arith))
lesser-long m (pos a) (negsuc b) h = clash true refl (sym h)
lesser-long m (negsuc a) (pos b) h = clash true refl (sym h)
lesser-long m (negsuc a) (negsuc b) h =
    if-cases (λ (z : ℤ). long_as m z ≡ true → false && long_as m (negsuc b) ≡ true) (leb a b) (λ e k. clash true refl (sym k))
    (λ e k. clash true refl (sym k)) h

join-long : (m : ℕ) (r : Scan) (k : Look) → scan_long m (with_look r k) ≡ true → scan_long m r && look_long m k ≡ true
unfolding scan_long look_long with_look
join-long m (over a) k h = clash true refl (sym h)
join-long m open-ended skip h = refl
join-long m open-ended (room x) h = h
join-long m open-ended (meets a) h = clash true refl (sym h)
join-long m (within b) skip h = both (long_as m b) true h refl
join-long m (within b) (room x) h = lesser-long m b x h
join-long m (within b) (meets a) h = clash true refl (sym h)

-- a scan that ends at least at m met only sides that say so
pub scan-long : (m : ℕ) (c : State) (n d : ℕ) (r : Scan) (l : List ℕ) → scan_long m (fold (scan_step c n d) r l) ≡ true
    → scan_long m r && all (λ s. look_long m (look c n d s)) l ≡ true
unfolding fold all scan_step
scan-long m c n d r [] h = both (scan_long m r) true h refl
scan-long m c n d r (s ∷ l) h =
    let k : Look = look c n d s in
    let ih : scan_long m (with_look r k) && all (λ s. look_long m (look c n d s)) l ≡ true = scan-long m c n d (with_look r k) l h in
    let e : scan_long m r && look_long m k ≡ true = join-long m r k (and_left (scan_long m (with_look r k)) _ ih) in
    both (scan_long m r) _ (and_left (scan_long m r) (look_long m k) e)
    (both (look_long m k) _ (and_right (scan_long m r) (look_long m k) e) (and_right (scan_long m (with_look r k)) _ ih))

-- ---- a side with room for m, above 0

sub-pos : (w g m : ℕ) → long_as m (sub_ℕ w g) ≡ true → 0 < m → g + m ≤ w
unfolding long_as
sub-pos w g m h p =
    by-test (ltb w g)
    (λ e. clash true refl (sym (rw e at h)))
    (λ e. let k = leb-true m (w - g) (rw e at h) in omega (arith, ltb-false w g e))

half_pos : (m : ℕ) (z : ℤ) → long_as m (half z) ≡ true → 0 < m → long_as m z ≡ true
unfolding long_as half
half_pos m (pos x) h p = let k = leb-true m (x / 2) h in le-leb m x (omega arith)
half_pos m (negsuc x) h p = absurd (no ((x + 1) / 2) h)
  where
    no : (y : ℕ) → long_as m (neg_ℤ (pos y)) ≡ true → ⊥
    no zero e = let k = leb-true m 0 e in omega arith
    no (suc y) e = clash true refl (sym e)

-- a peer or a free far side: the length, unless it is met
free-long : (m : ℕ) (c : State) (n s : ℕ) (l : ℤ) → look_long m (look_free c n s l) ≡ true → long_as m l ≡ true
unfolding look_free look_long
free-long m c n s l h =
    by-test (is_zero l)
    (λ e.
    let h₁ = rw e at h in
    by-test (passable c (end_at c (opposite s))) (λ q. clash true refl (sym (rw q at h₁))) (λ q. clash true refl (sym (rw q at h₁))))
    (λ e. rw e at h)

peer-long : (m : ℕ) (c : State) (n s p : ℕ) (l : ℤ) → look_long m (look_peer c n s p l) ≡ true → long_as m l ≡ true
unfolding look_peer look_long
peer-long m c n s p l h = by-test (is_zero l) (λ e. clash true refl (sym (rw e at h))) (λ e. rw e at h)

held-long : (m : ℕ) (c : State) (n s p : ℕ) → grow_state_of c p ≢ shrinking → 0 < m → look_long m (look_held c n s p) ≡ true → long_as m (gap_of c s) ≡ true
unfolding look_held
held-long m c n s p ne q h =
    let h₁ = rw (ne_eqb (grow_state_of c p) shrinking ne) at h in
    by-test (eqb (grow_state_of c p) growing)
    (λ e. half_pos m (gap_of c s) (peer-long m c n s p (half (gap_of c s)) (rw e at h₁)) q)
    (λ e. peer-long m c n s p (gap_of c s) (rw e at h₁))

-- no other node across is Shrink
abbrev pub NoShrinkAcross : State → ℕ → Type 0
NoShrinkAcross c n = (s p : ℕ) → member s (boundary_of c n) ≡ true → holder_at c (opposite s) ≡ p + 1 → p ≢ n → grow_state_of c p ≢ shrinking

pub grow-long : (m : ℕ) (c : State) (n s : ℕ) → NoShrinkAcross c n → member s (boundary_of c n) ≡ true → 0 < m
    → look_long m (look_grow c n s) ≡ true → holder_at c (opposite s) ≢ n + 1 → grown_over c s + m ≤ weight_over c s
unfolding look_grow gap_of
grow-long m c n s f i q h ne =
    let h₁ = rw (ne_eqb (holder_at c (opposite s)) (n + 1) ne) at h in
    by-test (eqb (holder_at c (opposite s)) 0)
    (λ e. sub-pos (weight_over c s) (grown_over c s) m (free-long m c n s _ (rw e at h₁)) q)
    (λ e.
    let z : holder_at c (opposite s) ≢ 0 = eqb-false _ _ e in
    let k : grow_state_of c (holder_at c (opposite s) - 1) ≢ shrinking = f s (holder_at c (opposite s) - 1) i (omega arith) (λ y. ne (omega arith)) in
    sub-pos (weight_over c s) (grown_over c s) m (unfold gap_of in (held-long m c n s (holder_at c (opposite s) - 1) k q (rw e at h₁))) q)
