-- Laws of the test for refusal 5 and of the sides that it reads.
use Rattle.std.specs.Prelude.{◌≡◌, ℕ, zero, suc, ◌+◌, ◌-◌, ◌<◌, ◌≤◌, true, false, ◌||◌, ◌≢◌, List, [], ◌∷◌, length, drop, nat_le, nat_lt, slice_index, if◌then◌else◌}
use Rattle.std.proofs.Common.{add-one, arith, sym, ap, ◌∙◌, drop_of_length-le, drop-cons}
use Rattle.std.proofs.Math.Path.{refl}
use Rattle.graph.specs.Basic.{any}
use Rattle.graph.specs.State.{State, vertex_count, node_count, sides_at, shrinking}
use Rattle.graph.specs.laws.State.{passed, if-both}
use Rattle.graph.specs.laws.Members.{by-test, clash, or-neither-left, or-neither-right}
use Rattle.calls.specs.Refuse.{store_short}
use Rattle.calls.specs.Insert.{occupied, defect_refusal}
use Rattle.calls.specs.Occupied.{vertex_decides, is_held, read_until_held, sides_read, FirstHeld}

-- ---- the loop: i sides were read, and none of them is held

module _ (c : State) (l : List ℕ) (i : ℕ) (e : i + read_until_held c (drop i l) ≡ read_until_held c l) where
  rest : i < length l → read_until_held c (drop i l) ≡ (if is_held c (slice_index l i) then 1 else suc (read_until_held c (drop (i + 1) l)))
  unfolding read_until_held
  rest h = rw (drop-cons l i 0 h, add-one)

  pub read_here : i < length l → is_held c (slice_index l i) ≡ true → i + 1 ≡ read_until_held c l
  read_here h p = let q : read_until_held c (drop i l) ≡ 1 = rest h ∙ rw p in omega (arith, e, q)

  pub read-on : i < length l → is_held c (slice_index l i) ≡ false → i + 1 + read_until_held c (drop (i + 1) l) ≡ read_until_held c l
  read-on h p = let q : read_until_held c (drop i l) ≡ suc (read_until_held c (drop (i + 1) l)) = rest h ∙ rw p in omega (arith, e, q)

  pub read-end : length l ≤ i → i ≡ read_until_held c l
  unfolding read_until_held
  read-end h = let q : read_until_held c (drop i l) ≡ 0 = rw (drop_of_length-le l h) in omega (arith, e, q)

-- ---- the vertex, and then its sides

module _ (c : State) (v : ℕ) where
  pub vertex-and-sides : occupied c v ≡ (vertex_decides c v || any (is_held c) (sides_at c v))
  unfolding occupied vertex_decides
  vertex-and-sides = refl

  module _ (h : vertex_decides c v ≡ true) where
    pub decides-occupied : true ≡ occupied c v
    decides-occupied = sym (vertex-and-sides ∙ rw h)

    pub decides-read : 0 ≡ sides_read c v
    unfolding sides_read
    decides-read = rw h

  module _ (h : vertex_decides c v ≡ false) where
    pub sides-occupied : any (is_held c) (sides_at c v) ≡ occupied c v
    sides-occupied = sym (vertex-and-sides ∙ rw h)

    pub sides-read : read_until_held c (sides_at c v) ≡ sides_read c v
    unfolding sides_read
    sides-read = rw h

  pub not-occupied : occupied c v ≡ false → (vertex_decides c v ≡ false) × (any (is_held c) (sides_at c v) ≡ false)
  not-occupied h =
      let p : (vertex_decides c v || any (is_held c) (sides_at c v)) ≡ false = sym vertex-and-sides ∙ h in
      (or-neither-left (vertex_decides c v) _ p, or-neither-right (vertex_decides c v) _ p)

-- ---- what refuses a defect

module _ (c : State) (v x : ℕ) where
  pub accepted-vacant : defect_refusal c v x ≡ 0 → occupied c v ≡ false
  unfolding defect_refusal
  accepted-vacant h = (passed (occupied c v) 4 _ (passed (nat_le (vertex_count c) v || nat_lt shrinking x) 2 _ h).1).0

  vacant-other : occupied c v ≡ false → defect_refusal c v x ≢ 5
  unfolding defect_refusal
  vacant-other e =
      let P : ℕ → Type 0 = λ (k : ℕ). k ≢ 5 in
      rw e
      (if-both P (nat_le (vertex_count c) v || nat_lt shrinking x) (λ q. omega (arith, q))
      (if-both P (nat_le c.node_limit (node_count c)) (λ q. omega (arith, q))
      (if-both P (store_short c [] 1) (λ q. omega (arith, q)) (λ q. omega (arith, q)))))

  pub refused-occupied : defect_refusal c v x ≡ 5 → occupied c v ≡ true
  refused-occupied h = by-test (occupied c v) (λ e. e) (λ e. absurd (vacant-other e h))

-- ---- a list of sides

-- none is held: all are read
pub free-read : (c : State) (l : List ℕ) → any (is_held c) l ≡ false → read_until_held c l ≡ length l
unfolding read_until_held any
free-read c [] h = refl
free-read c (t ∷ ts) h =
    let ih : read_until_held c ts ≡ length ts = free-read c ts (or-neither-right (is_held c t) (any (is_held c) ts) h) in
    rw (or-neither-left (is_held c t) (any (is_held c) ts) h) (ap suc ih)

-- one is held: some are read
pub held-read : (c : State) (l : List ℕ) → any (is_held c) l ≡ true → 1 ≤ read_until_held c l
unfolding read_until_held any
held-read c [] h = absurd (clash true refl (sym h))
held-read c (t ∷ ts) h = by-test (is_held c t) (λ e. rw e (omega arith)) (λ e. rw e (omega arith))

-- the last of them is the first held one
first-at : (c : State) (l : List ℕ) (k : ℕ) → any (is_held c) l ≡ true → read_until_held c l ≡ suc k → FirstHeld c l k
unfolding read_until_held any
first-at c [] k h e = absurd (clash true refl (sym h))
first-at c (t ∷ ts) zero h e =
    by-test (is_held c t)
    (λ q. record { within = omega arith; held = q; none_before = λ i b. absurd (omega arith) })
    (λ q. let p : 1 ≤ read_until_held c ts = held-read c ts (rw q at h) in let z : suc (read_until_held c ts) ≡ 1 = rw q at e in absurd (omega arith))
first-at c (t ∷ ts) (suc k) h e =
    by-test (is_held c t)
    (λ q. let z : ◌≡◌ {A = ℕ} 1 (suc (suc k)) = rw q at e in absurd (omega arith))
    (λ q.
    let z : suc (read_until_held c ts) ≡ suc (suc k) = rw q at e in
    let ih : FirstHeld c ts k = first-at c ts k (rw q at h) (omega arith) in
    record { within = omega (arith, ih.within); held = ih.held; none_before = before q ih })
  where
    before : is_held c t ≡ false → FirstHeld c ts k → (i : ℕ) → i < suc k → is_held c (slice_index (t ∷ ts) i) ≡ false
    before q ih zero b = q
    before q ih (suc i) b = ih.none_before i (omega arith)

pub first_read : (c : State) (l : List ℕ) → any (is_held c) l ≡ true → FirstHeld c l (read_until_held c l - 1)
first_read c l h = first-at c l (read_until_held c l - 1) h (omega (arith, held-read c l h))
