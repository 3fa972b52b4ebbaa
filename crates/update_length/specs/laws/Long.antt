-- What a free length says: of a node that grows, each boundary side has so much left; of a node that shrinks, dual variable, top amount and each side.
use Rattle.std.specs.Prelude.{ℕ, zero, suc, ◌+◌, ◌-◌, ◌/◌, ◌≤◌, ◌<◌, min, ◌≡◌, refl, ◌≢◌, Bool, true, false, ◌&&◌, not, List, [], ◌∷◌, ℤ, pos, negsuc, neg_ℤ, eqb, leb, ltb, if◌then◌else◌}
use Rattle.std.proofs.Common.{arith, sym, eq-eqb, ne_eqb, leb-true, le-leb, ltb-false}
use Rattle.std.proofs.Math.IntN.{sub_ℕ}
use Rattle.std.proofs.lemmas.Bool.{eqb-false, not-true}
use Rattle.graph.specs.Basic.{fold, all, member}
use Rattle.graph.specs.State.{State, NodeClass, defect_vertex, blossom, removed, opposite, passable, holder_at, end_at, sides_at, growth_at, grow_state_of, class_of, dual_of, boundary_of, overgrown_of, grown_over, weight_over, growing, shrinking, up, down}
use Rattle.graph.specs.laws.State.{and_left, and_right, if-both, if-cases, fold-keeps}
use Rattle.graph.specs.laws.Members.{both, by-test, clash, all-member}
use Rattle.answers.specs.Outcome.{Answer}
use Rattle.answers.specs.Outcome.{Length}
use Rattle.answers.specs.Answer.{free_or, is_free}
use Rattle.answers.specs.laws.Answer.{free-cases, free_other}
use Rattle.update_length.specs.Scan.{half, is_zero, lesser, Look, skip, room, meets, gap_of, look_peer, look_free, look_held, look_grow, look_shrink, look, Scan, open-ended, within, over, with_look, scan_step, is_empty, scan_answer, scan_boundary, Peers, no_peer, peer, two_peers, stop_step, stop_with, stop_answer, shrink_limit, scan}

-- ---- lengths

-- a length is at least m
unfoldable pub long_as : ℕ → ℤ → Bool
long_as m (pos x) = leb m x
long_as m (negsuc x) = false

-- a free answer of at least m
unfoldable pub answer_long : ℕ → Answer → Bool
answer_long m a = free_or false (λ l e. long_as m l) (λ e. true) a

long-is-free : (m : ℕ) (a : Answer) → answer_long m a ≡ true → is_free a ≡ true
unfolding answer_long is_free
long-is-free m =
    free-cases (λ a. answer_long m a ≡ true → is_free a ≡ true) (λ l e h. refl) (λ e h. refl)
    (λ a k h. clash (answer_long m a) h (free_other false (λ l e. long_as m l) (λ e. true) a k))

unfoldable scan_long : ℕ → Scan → Bool
scan_long m open-ended = true
scan_long m (within l) = long_as m l
scan_long m (over a) = false

unfoldable look_long : ℕ → Look → Bool
look_long m skip = true
look_long m (room l) = long_as m l
look_long m (meets a) = false

pub lesser-long : (m : ℕ) (a b : ℤ) → long_as m (lesser a b) ≡ true → long_as m a && long_as m b ≡ true
unfolding long_as lesser
lesser-long m (pos a) (pos b) h = let k : m ≤ min a b = leb-true m (min a b) h in both (leb m a) (leb m b) (le-leb m a (omega arith)) (le-leb m b (omega arith))
lesser-long m (pos a) (negsuc b) h = clash true refl (sym h)
lesser-long m (negsuc a) (pos b) h = clash true refl (sym h)
lesser-long m (negsuc a) (negsuc b) h =
    if-cases (λ (z : ℤ). long_as m z ≡ true → false && long_as m (negsuc b) ≡ true) (leb a b) (λ e k. clash true refl (sym k))
    (λ e k. clash true refl (sym k)) h

join-long : (m : ℕ) (r : Scan) (k : Look) → scan_long m (with_look r k) ≡ true → scan_long m r && look_long m k ≡ true
unfolding scan_long look_long with_look
join-long m (over a) k h = clash true refl (sym h)
join-long m open-ended skip h = refl
join-long m open-ended (room x) h = h
join-long m open-ended (meets a) h = clash true refl (sym h)
join-long m (within b) skip h = both (long_as m b) true h refl
join-long m (within b) (room x) h = lesser-long m b x h
join-long m (within b) (meets a) h = clash true refl (sym h)

-- a scan that ends at least at m met only sides that say so
scan-long : (m : ℕ) (c : State) (n d : ℕ) (r : Scan) (l : List ℕ) → scan_long m (fold (scan_step c n d) r l) ≡ true
    → scan_long m r && all (λ s. look_long m (look c n d s)) l ≡ true
unfolding fold all scan_step
scan-long m c n d r [] h = both (scan_long m r) true h refl
scan-long m c n d r (s ∷ l) h =
    let k : Look = look c n d s in
    let ih : scan_long m (with_look r k) && all (λ s. look_long m (look c n d s)) l ≡ true = scan-long m c n d (with_look r k) l h in
    let e : scan_long m r && look_long m k ≡ true = join-long m r k (and_left (scan_long m (with_look r k)) _ ih) in
    both (scan_long m r) _ (and_left (scan_long m r) (look_long m k) e)
    (both (look_long m k) _ (and_right (scan_long m r) (look_long m k) e) (and_right (scan_long m (with_look r k)) _ ih))

-- ---- what a side meets is no length

unfoldable look_plain : Look → Bool
look_plain skip = true
look_plain (room l) = true
look_plain (meets a) = not (is_free a)

unfoldable scan_plain : Scan → Bool
scan_plain open-ended = true
scan_plain (within l) = true
scan_plain (over a) = not (is_free a)

join-plain : (r : Scan) (k : Look) → scan_plain r ≡ true → look_plain k ≡ true → scan_plain (with_look r k) ≡ true
unfolding scan_plain look_plain with_look
join-plain (over a) k p q = p
join-plain open-ended skip p q = refl
join-plain open-ended (room x) p q = refl
join-plain open-ended (meets a) p q = q
join-plain (within b) skip p q = refl
join-plain (within b) (room x) p q = refl
join-plain (within b) (meets a) p q = q

abbrev Plain : Look → Type 0
Plain k = look_plain k ≡ true

look-plain : (c : State) (n d s : ℕ) → look_plain (look c n d s) ≡ true
unfolding look look_grow look_free look_held look_peer look_shrink look_plain is_free
look-plain c n d s =
    if-both Plain (eqb d up)
    (if-both Plain (eqb (holder_at c (opposite s)) (n + 1)) refl
    (if-both Plain (eqb (holder_at c (opposite s)) 0)
    (if-both Plain (not (is_zero (gap_of c s))) refl (if-both Plain (passable c (end_at c (opposite s))) refl refl))
    (if-both Plain (eqb (grow_state_of c (holder_at c (opposite s) - 1)) shrinking) refl
    (if-both Plain (is_zero (if eqb (grow_state_of c (holder_at c (opposite s) - 1)) growing then half (gap_of c s) else gap_of c s)) refl refl))))
    (if-both Plain (eqb (growth_at c s) 0) refl refl)

answer-long : (m : ℕ) (e : Bool) (r : Scan) → scan_plain r ≡ true → answer_long m (scan_answer e r) ≡ true → scan_long m r ≡ true
unfolding answer_long scan_answer scan_long scan_plain
answer-long m e open-ended p h = refl
answer-long m e (within l) p h = h
answer-long m e (over a) p h = clash (is_free a) (long-is-free m a h) (not-true (is_free a) p)

boundary-long : (m : ℕ) (c : State) (n d : ℕ) (r : Scan) → scan_plain r ≡ true
    → answer_long m (scan_boundary c n d r) ≡ true
    → scan_long m r && all (λ s. look_long m (look c n d s)) (boundary_of c n) ≡ true
unfolding scan_boundary scan_step
boundary-long m c n d r p h =
    scan-long m c n d r (boundary_of c n)
    (answer-long m (is_empty (boundary_of c n)) (fold (scan_step c n d) r (boundary_of c n))
    (fold-keeps (scan_step c n d) (λ (x : Scan). scan_plain x ≡ true) (λ x s q. join-plain x (look c n d s) q (look-plain c n d s)) r (boundary_of c n) p) h)

-- ---- a node of dual variable 0 answers no length

stop-with-short : (n : ℕ) (r : Peers) → is_free (Length (stop_with n r)) ≡ false
unfolding stop_with is_free
stop-with-short n no_peer = refl
stop-with-short n (peer p g) = refl
stop-with-short n (two_peers q h p g) = refl

pub stop-short : (c : State) (n : ℕ) (k : NodeClass) → is_free (Length (stop_answer c n k)) ≡ false
unfolding stop_answer is_free
stop-short c n (blossom m) = refl
stop-short c n removed = refl
stop-short c n (defect_vertex v) = stop-with-short n (fold (stop_step c) no_peer (sides_at c v))

-- ---- shrinking

pub record LeftDown (m : ℕ) (c : State) (n : ℕ) : Type 0 where
  pub positive : dual_of c n ≢ 0
  pub limit : m ≤ shrink_limit (dual_of c n) (overgrown_of c n)
  pub growth : (s : ℕ) → member s (boundary_of c n) ≡ true → (growth_at c s ≢ 0) × (m ≤ growth_at c s)

within-long : (m x : ℕ) → scan_long m (within (pos x)) ≡ true → m ≤ x
unfolding scan_long long_as
within-long m x h = leb-true m x h

shrink-long : (m : ℕ) (c : State) (n s : ℕ) → look_long m (look c n down s) ≡ true → (growth_at c s ≢ 0) × (m ≤ growth_at c s)
unfolding look look_shrink look_long long_as
shrink-long m c n s j =
    by-test (eqb (growth_at c s) 0)
    (λ q. clash true refl (sym (rw q at j)))
    (λ q. (eqb-false (growth_at c s) 0 q, leb-true m (growth_at c s) (rw q at j)))

within-plain : (x : ℤ) → scan_plain (within x) ≡ true
unfolding scan_plain
within-plain x = refl

pub scan-down-long : (m : ℕ) (c : State) (n : ℕ) → answer_long m (scan c n down) ≡ true → LeftDown m c n
unfolding scan
scan-down-long m c n h =
    by-test (eqb (dual_of c n) 0)
    (λ e. clash (is_free (Length (stop_answer c n (class_of c n)))) (long-is-free m _ (rw e at h)) (stop-short c n (class_of c n)))
    (λ e.
    let r : Scan = within (pos (shrink_limit (dual_of c n) (overgrown_of c n))) in
    let k : scan_long m r && all (λ s. look_long m (look c n down s)) (boundary_of c n) ≡ true =
    boundary-long m c n down r (within-plain (pos (shrink_limit (dual_of c n) (overgrown_of c n)))) (rw e at h) in
    record {
      positive = eqb-false _ _ e;
      limit = within-long m (shrink_limit (dual_of c n) (overgrown_of c n)) (and_left (scan_long m r) _ k);
      growth = λ s i. shrink-long m c n s (all-member (λ s. look_long m (look c n down s)) (boundary_of c n) s (and_right (scan_long m r) _ k) i);
    })

-- ---- growing

sub-pos : (w g m : ℕ) → long_as m (sub_ℕ w g) ≡ true → 0 < m → g + m ≤ w
unfolding long_as
sub-pos w g m h p =
    by-test (ltb w g)
    (λ e. clash true refl (sym (rw e at h)))
    (λ e. let k = leb-true m (w - g) (rw e at h) in omega (arith, ltb-false w g e))

half_pos : (m : ℕ) (z : ℤ) → long_as m (half z) ≡ true → 0 < m → long_as (m + m) z ≡ true
unfolding long_as half
half_pos m (pos x) h p = let k = leb-true m (x / 2) h in le-leb (m + m) x (omega arith)
half_pos m (negsuc x) h p = absurd (no ((x + 1) / 2) h)
  where
    no : (y : ℕ) → long_as m (neg_ℤ (pos y)) ≡ true → ⊥
    no zero e = let k = leb-true m 0 e in omega arith
    no (suc y) e = clash true refl (sym e)

free-long : (m : ℕ) (c : State) (n s : ℕ) (l : ℤ) → look_long m (look_free c n s l) ≡ true → long_as m l ≡ true
unfolding look_free look_long
free-long m c n s l h =
    by-test (is_zero l)
    (λ e.
    let h₁ = rw e at h in
    by-test (passable c (end_at c (opposite s))) (λ q. clash true refl (sym (rw q at h₁))) (λ q. clash true refl (sym (rw q at h₁))))
    (λ e. rw e at h)

peer-long : (m : ℕ) (c : State) (n s p : ℕ) (l : ℤ) → look_long m (look_peer c n s p l) ≡ true → long_as m l ≡ true
unfolding look_peer look_long
peer-long m c n s p l h = by-test (is_zero l) (λ e. clash true refl (sym (rw e at h))) (λ e. rw e at h)

pub record LeftUp (m : ℕ) (c : State) (n : ℕ) : Type 0 where
  pub free : (s : ℕ) → member s (boundary_of c n) ≡ true → holder_at c (opposite s) ≡ 0 → grown_over c s + m ≤ weight_over c s
  pub stay : (s p : ℕ) → member s (boundary_of c n) ≡ true → holder_at c (opposite s) ≡ p + 1 → p ≢ n
      → grow_state_of c p ≢ shrinking → grow_state_of c p ≢ growing → grown_over c s + m ≤ weight_over c s
  pub grow : (s p : ℕ) → member s (boundary_of c n) ≡ true → holder_at c (opposite s) ≡ p + 1 → p ≢ n
      → grow_state_of c p ≡ growing → grown_over c s + (m + m) ≤ weight_over c s

-- the look at a side whose far side node p holds
held-look : (c : State) (n s p : ℕ) → holder_at c (opposite s) ≡ p + 1 → p ≢ n → look_grow c n s ≡ look_held c n s p
unfolding look_grow
held-look c n s p h ne =
    let e₁ : eqb (holder_at c (opposite s)) (n + 1) ≡ false = ne_eqb (holder_at c (opposite s)) (n + 1) (λ q. ne (omega arith)) in
    let e₂ : eqb (holder_at c (opposite s)) 0 ≡ false = ne_eqb (holder_at c (opposite s)) 0 (λ q. omega arith) in
    let e₃ : holder_at c (opposite s) - 1 ≡ p = omega arith in
    rw (e₁, e₂, e₃) refl

free-look : (c : State) (n s : ℕ) → holder_at c (opposite s) ≡ 0 → look_grow c n s ≡ look_free c n s (gap_of c s)
unfolding look_grow
free-look c n s h =
    let e₁ : eqb (holder_at c (opposite s)) (n + 1) ≡ false = ne_eqb (holder_at c (opposite s)) (n + 1) (λ q. omega arith) in
    let e₂ : eqb (holder_at c (opposite s)) 0 ≡ true = eq-eqb _ _ h in
    rw (e₁, e₂) refl

free-gap : (m : ℕ) → 0 < m → (c : State) (n s : ℕ) → look_long m (look_free c n s (gap_of c s)) ≡ true → grown_over c s + m ≤ weight_over c s
unfolding gap_of
free-gap m z c n s h = sub-pos (weight_over c s) (grown_over c s) m (free-long m c n s (sub_ℕ (weight_over c s) (grown_over c s)) h) z

stay-gap : (m : ℕ) → 0 < m → (c : State) (n s p : ℕ) → grow_state_of c p ≢ shrinking → grow_state_of c p ≢ growing
    → look_long m (look_held c n s p) ≡ true → grown_over c s + m ≤ weight_over c s
unfolding gap_of look_held
stay-gap m z c n s p x y j =
    sub-pos (weight_over c s) (grown_over c s) m
    (peer-long m c n s p (sub_ℕ (weight_over c s) (grown_over c s))
    (rw (ne_eqb (grow_state_of c p) shrinking x, ne_eqb (grow_state_of c p) growing y) at j))
    z

grow-gap : (m : ℕ) → 0 < m → (c : State) (n s p : ℕ) → grow_state_of c p ≡ growing → look_long m (look_held c n s p) ≡ true
    → grown_over c s + (m + m) ≤ weight_over c s
unfolding gap_of look_held
grow-gap m z c n s p x j =
    sub-pos (weight_over c s) (grown_over c s) (m + m)
    (half_pos m (sub_ℕ (weight_over c s) (grown_over c s))
    (peer-long m c n s p (half (sub_ℕ (weight_over c s) (grown_over c s))) (rw x at j)) z)
    (omega arith)

open_plain : scan_plain open-ended ≡ true
unfolding scan_plain
open_plain = refl

pub scan-up-long : (m : ℕ) → 0 < m → (c : State) (n : ℕ) → answer_long m (scan c n up) ≡ true → LeftUp m c n
unfolding scan look
scan-up-long m z c n h =
    let k : scan_long m open-ended && all (λ s. look_long m (look c n up s)) (boundary_of c n) ≡ true = boundary-long m c n up open-ended open_plain h in
    let sides : (s : ℕ) → member s (boundary_of c n) ≡ true → look_long m (look_grow c n s) ≡ true =
    λ s i. all-member (λ s. look_long m (look c n up s)) (boundary_of c n) s (and_right (scan_long m open-ended) _ k) i in
    record {
      free = λ s i e. free-gap m z c n s (rw (free-look c n s e) at (sides s i));
      stay = λ s p i e ne x y. stay-gap m z c n s p x y (rw (held-look c n s p e ne) at (sides s i));
      grow = λ s p i e ne x. grow-gap m z c n s p x (rw (held-look c n s p e ne) at (sides s i));
    }
