-- Laws of the scratch: an entry more in a section, an entry read, a section cleared.
use Prim.Native.Nat.{ℕ, zero, suc, ◌+◌, ◌-◌, ◌*◌, ◌≤◌, ◌<◌}
use Rattle.std.proofs.Common.{add-one, sym, ◌∙◌, append_assoc, length-append, drop_at, get_or-append-add, get_or-set_same, get_or-set_other, ext_get_or}
use native.Mathlib.Omega.{arith}
use Rattle.std.proofs.Math.Decide.{ℕ_discrete as dec_eq}
use Rattle.std.specs.Prelude.{◌≡◌, refl, List, [], ◌∷◌, ◌++◌, map, ℤ, pos, set, get_or, take, drop, replicate}
use Rattle.std.proofs.Math.Path.{ap}
use Rattle.std.proofs.Math.ListN.{length, length-replicate, length-set, get_or-append, get_or-map}
use Rattle.std.proofs.lemmas.List.{length-map, get_or-replicate}
use Rattle.std.proofs.lemmas.List.Edits.{fill_from_more}
use Rattle.std.proofs.Math.Seq.{take_at, paste, paste-zero}
use Rattle.graph.specs.Word.{to_nat, word_at, numbers_at}
use Rattle.graph.specs.State.{State, side_count}
use Rattle.graph.specs.Layout.{state_of, scratch_size}
use Rattle.graph.specs.Form.{Formed}
use Rattle.graph.specs.inner.Form.{Becomes}
use Rattle.pass.specs.Scratch.{zero_scratch, scratch_of}
use Rattle.pass.specs.inner.Scratch.{note_limit, ScratchHolds, wiped, scratch_words, padded}

-- ---- lists

map-pos-set : (l : List ℕ) (i x : ℕ) → map pos (set l i x) ≡ set (map pos l) i (pos x)
map-pos-set [] i x = refl
map-pos-set (y ∷ l) zero x = refl
map-pos-set (y ∷ l) (suc i) x = ap (λ r. pos y ∷ r) (map-pos-set l i x)

numbers-pos : (l : List ℕ) → map to_nat (map pos l) ≡ l
unfolding to_nat
numbers-pos [] = refl
numbers-pos (x ∷ l) = ap (λ r. x ∷ r) (numbers-pos l)

set-left : (l r : List ℕ) (i x : ℕ) → i < length l → set (l ++ r) i x ≡ set l i x ++ r
set-left [] r i x h = absurd (omega arith)
set-left (y ∷ l) r zero x h = refl
set-left (y ∷ l) r (suc i) x h = ap (λ z. y ∷ z) (set-left l r i x (omega arith))

set-right : (l r : List ℕ) (i x : ℕ) → set (l ++ r) (length l + i) x ≡ l ++ set r i x
set-right [] r i x = let z : 0 + i ≡ i = omega arith in rw z
set-right (y ∷ l) r i x = let z : suc (length l) + i ≡ suc (length l + i) = omega arith in rw z (ap (λ q. y ∷ q) (set-right l r i x))

replicate-append : (j k : ℕ) → replicate {A = ℕ} j 0 ++ replicate k 0 ≡ replicate (j + k) 0
replicate-append zero k = let z : 0 + k ≡ k = omega arith in rw z
replicate-append (suc j) k = let z : suc j + k ≡ suc (j + k) = omega arith in rw z (ap (λ q. 0 ∷ q) (replicate-append j k))

-- ---- one section

pub length-padded : (m : ℕ) (l : List ℕ) → length l ≤ m → length (padded m l) ≡ m
unfolding padded
length-padded m l h = length-append l (replicate (m - length l) 0) ∙ omega (arith, length-replicate {A = ℕ} (m - length l) 0)

-- one more entry
padded-push : (m : ℕ) (l : List ℕ) (x : ℕ) → length l < m → set (padded m l) (length l) x ≡ padded m (l ++ (x ∷ []))
unfolding padded
padded-push m l x h =
    let z : length l ≡ length l + 0 = omega arith in
    let u : m - length l ≡ suc (m - length l - 1) = omega arith in
    let v : length (l ++ (x ∷ [])) ≡ length l + 1 = length-append l (x ∷ []) in
    let w : m - (length l + 1) ≡ m - length l - 1 = omega arith in
    ap (λ i. set (l ++ replicate (m - length l) 0) i x) z
    ∙ set-right l (replicate (m - length l) 0) 0 x
    ∙ rw (u, v, w) (sym (append_assoc l (x ∷ []) (replicate (m - length l - 1) 0)))

-- an entry changed
padded-set : (m : ℕ) (l : List ℕ) (i x : ℕ) → i < length l → set (padded m l) i x ≡ padded m (set l i x)
unfolding padded
padded-set m l i x h = rw (length-set l i x) (set-left l (replicate (m - length l) 0) i x h)

-- entries that are all zero are none
padded-zeros : (m k : ℕ) → k ≤ m → padded m (replicate k 0) ≡ padded m []
unfolding padded
padded-zeros m k h =
    let z : k + (m - k) ≡ m = omega arith in
    let n : m - 0 ≡ m = omega arith in
    rw (length-replicate {A = ℕ} k 0) (replicate-append k (m - k) ∙ rw (z, n))

padded-entry : (m : ℕ) (l : List ℕ) (i : ℕ) → i < length l → get_or (padded m l) i 0 ≡ get_or l i 0
unfolding padded
padded-entry m l i h = get_or-append l (replicate (m - length l) 0) 0 i h

-- ---- three sections

length-scratch : (m k : ℕ) (a b c : List ℕ) → length a ≤ m → length b ≤ m → length c ≤ k → length (scratch_words m k a b c) ≡ 2 * m + k
unfolding scratch_words
length-scratch m k a b c ha hb hc =
    length-map (padded m a ++ (padded m b ++ padded k c)) pos
    ∙ length-append (padded m a) (padded m b ++ padded k c)
    ∙ omega (arith, length-append (padded m b) (padded k c), length-padded m a ha, length-padded m b hb, length-padded k c hc)

-- the scratch with a word changed in its first, second or third section
set_first : (m k : ℕ) (a b c : List ℕ) (i x : ℕ) → i < length (padded m a)
    → set (scratch_words m k a b c) i (pos x) ≡ map pos (set (padded m a) i x ++ (padded m b ++ padded k c))
unfolding scratch_words
set_first m k a b c i x h =
    sym (map-pos-set (padded m a ++ (padded m b ++ padded k c)) i x)
    ∙ ap (map pos) (set-left (padded m a) (padded m b ++ padded k c) i x h)

set-second : (m k : ℕ) (a b c : List ℕ) (i x : ℕ) → length a ≤ m → i < length (padded m b)
    → set (scratch_words m k a b c) (m + i) (pos x) ≡ map pos (padded m a ++ (set (padded m b) i x ++ padded k c))
unfolding scratch_words
set-second m k a b c i x ha h =
    let z : m + i ≡ length (padded m a) + i = omega (arith, length-padded m a ha) in
    sym (map-pos-set (padded m a ++ (padded m b ++ padded k c)) (m + i) x)
    ∙ ap (map pos) (ap (λ j. set (padded m a ++ (padded m b ++ padded k c)) j x) z
    ∙ set-right (padded m a) (padded m b ++ padded k c) i x
    ∙ ap (λ q. padded m a ++ q) (set-left (padded m b) (padded k c) i x h))

set-third : (m k : ℕ) (a b c : List ℕ) (i x : ℕ) → length a ≤ m → length b ≤ m
    → set (scratch_words m k a b c) (2 * m + i) (pos x) ≡ map pos (padded m a ++ (padded m b ++ set (padded k c) i x))
unfolding scratch_words
set-third m k a b c i x ha hb =
    let z : 2 * m + i ≡ length (padded m a) + (length (padded m b) + i) = omega (arith, length-padded m a ha, length-padded m b hb) in
    sym (map-pos-set (padded m a ++ (padded m b ++ padded k c)) (2 * m + i) x)
    ∙ ap (map pos) (ap (λ j. set (padded m a ++ (padded m b ++ padded k c)) j x) z
    ∙ set-right (padded m a) (padded m b ++ padded k c) (length (padded m b) + i) x
    ∙ ap (λ q. padded m a ++ q) (set-right (padded m b) (padded k c) i x))

-- ---- reading the scratch

scratch-word : (m k : ℕ) (a b c : List ℕ) (i : ℕ) → word_at (scratch_words m k a b c) i ≡ get_or (padded m a ++ (padded m b ++ padded k c)) i 0
unfolding word_at scratch_words to_nat
scratch-word m k a b c i =
    sym (get_or-map to_nat (map pos (padded m a ++ (padded m b ++ padded k c))) i (pos 0))
    ∙ ap (λ l. get_or l i 0) (numbers-pos (padded m a ++ (padded m b ++ padded k c)))

scratch-numbers : (m k : ℕ) (a b c : List ℕ) (p n : ℕ) → numbers_at (scratch_words m k a b c) p n ≡ take n (drop p (padded m a ++ (padded m b ++ padded k c)))
unfolding numbers_at scratch_words to_nat
scratch-numbers m k a b c p n = part (padded m a ++ (padded m b ++ padded k c)) p n
  where
    front : (l : List ℕ) (n : ℕ) → map to_nat (take n (map pos l)) ≡ take n l
    front [] zero = refl
    front [] (suc n) = refl
    front (x ∷ l) zero = refl
    front (x ∷ l) (suc n) = ap (λ r. x ∷ r) (front l n)

    part : (l : List ℕ) (p n : ℕ) → map to_nat (take n (drop p (map pos l))) ≡ take n (drop p l)
    part l zero n = front l n
    part [] (suc p) n = front [] n
    part (x ∷ l) (suc p) n = part l p n

-- ---- the scratch of a block

-- its length, by the sections
pub scratch-sections : {b : List ℤ} → Formed b → scratch_size (state_of b) ≡ 2 * side_count (state_of b) + note_limit (state_of b)
scratch-sections f = omega (arith, f.pairs)

-- a block of the same counts has the same
pub scratch-same : {b b' : List ℤ} {c : State} → Becomes b b' c → scratch_of (state_of b) ≡ scratch_of (state_of b')
scratch-same x = rw (x.vertices, x.edges)

-- ---- what a pass does with its scratch

pub holding-zero : (t : List ℤ) (m k : ℕ) → t ≡ zero_scratch (2 * m + k) → ScratchHolds t m k [] [] []
unfolding zero_scratch scratch_words padded
holding-zero t m k e =
    let n : m - 0 ≡ m = omega arith in
    let o : k - 0 ≡ k = omega arith in
    let z : m + (m + k) ≡ 2 * m + k = omega arith in
    let zeros : replicate {A = ℕ} m 0 ++ (replicate m 0 ++ replicate k 0) ≡ replicate (2 * m + k) 0 =
    ap (λ q. replicate m 0 ++ q) (replicate-append m k) ∙ replicate-append m (m + k) ∙ ap (λ j. replicate j 0) z in
    record {
      words = e ∙ sym (rw (n, o, zeros) (map-zeros (2 * m + k)));
      keeps = omega arith;
      seconds = omega arith;
      notes = omega arith;
      size = rw e (length-replicate (2 * m + k) (pos 0));
    }
  where
    map-zeros : (k : ℕ) → map pos (replicate k 0) ≡ replicate k (pos 0)
    map-zeros zero = refl
    map-zeros (suc k) = ap (λ r. pos 0 ∷ r) (map-zeros k)

pub zero-holding : (t : List ℤ) (m k : ℕ) → ScratchHolds t m k [] [] [] → t ≡ zero_scratch (2 * m + k)
zero-holding t m k h = h.words ∙ sym (holding-zero (zero_scratch (2 * m + k)) m k refl).words

module _ {t : List ℤ} {m k : ℕ} {a b c : List ℕ} (h : ScratchHolds t m k a b c) where
  -- one more entry
  pub hold-first : (x : ℕ) → length a < m → ScratchHolds (set t (length a) (pos x)) m k (a ++ (x ∷ [])) b c
  hold-first x l =
      let u = length-append a (x ∷ []) in
      record {
        words = rw h.words (set_first m k a b c (length a) x (rw (length-padded m a h.keeps) l) ∙ rw (padded-push m a x l) (unfold scratch_words in refl));
        keeps = omega (arith, u);
        seconds = h.seconds;
        notes = h.notes;
        size = length-set t (length a) (pos x) ∙ h.size;
      }

  pub hold-second : (x : ℕ) → length b < m → ScratchHolds (set t (m + length b) (pos x)) m k a (b ++ (x ∷ [])) c
  hold-second x l =
      let u = length-append b (x ∷ []) in
      record {
        words = rw h.words
            (set-second m k a b c (length b) x h.keeps (rw (length-padded m b h.seconds) l)
            ∙ rw (padded-push m b x l) (unfold scratch_words in refl));
        keeps = h.keeps;
        seconds = omega (arith, u);
        notes = h.notes;
        size = length-set t (m + length b) (pos x) ∙ h.size;
      }

  pub hold-third : (x : ℕ) → length c < k → ScratchHolds (set t (2 * m + length c) (pos x)) m k a b (c ++ (x ∷ []))
  hold-third x l =
      let u = length-append c (x ∷ []) in
      record {
        words = rw h.words (set-third m k a b c (length c) x h.keeps h.seconds ∙ rw (padded-push k c x l) (unfold scratch_words in refl));
        keeps = h.keeps;
        seconds = h.seconds;
        notes = omega (arith, u);
        size = length-set t (2 * m + length c) (pos x) ∙ h.size;
      }

  -- an entry changed
  pub change-first : (i x : ℕ) → i < length a → ScratchHolds (set t i (pos x)) m k (set a i x) b c
  change-first i x l = record {
    words = rw h.words
        (set_first m k a b c i x (rw (length-padded m a h.keeps) (omega (arith, h.keeps)))
        ∙ rw (padded-set m a i x l) (unfold scratch_words in refl));
    keeps = rw (length-set a i x) h.keeps;
    seconds = h.seconds;
    notes = h.notes;
    size = length-set t i (pos x) ∙ h.size;
  }

  pub change-second : (i x : ℕ) → i < length b → ScratchHolds (set t (m + i) (pos x)) m k a (set b i x) c
  change-second i x l = record {
    words = rw h.words
        (set-second m k a b c i x h.keeps (rw (length-padded m b h.seconds) (omega (arith, h.seconds)))
        ∙ rw (padded-set m b i x l) (unfold scratch_words in refl));
    keeps = h.keeps;
    seconds = rw (length-set b i x) h.seconds;
    notes = h.notes;
    size = length-set t (m + i) (pos x) ∙ h.size;
  }

  pub change-third : (i x : ℕ) → i < length c → ScratchHolds (set t (2 * m + i) (pos x)) m k a b (set c i x)
  change-third i x l = record {
    words = rw h.words (set-third m k a b c i x h.keeps h.seconds ∙ rw (padded-set k c i x l) (unfold scratch_words in refl));
    keeps = h.keeps;
    seconds = h.seconds;
    notes = rw (length-set c i x) h.notes;
    size = length-set t (2 * m + i) (pos x) ∙ h.size;
  }

  -- entries that are all zero are none
  pub drop-first : (j : ℕ) → a ≡ replicate j 0 → ScratchHolds t m k [] b c
  unfolding scratch_words
  drop-first j e =
      let l : j ≤ m = omega (arith, h.keeps, ap length e ∙ length-replicate {A = ℕ} j 0) in
      record { words = h.words ∙ rw (e, padded-zeros m j l); keeps = omega arith; seconds = h.seconds; notes = h.notes; size = h.size }

  pub drop-second : (j : ℕ) → b ≡ replicate j 0 → ScratchHolds t m k a [] c
  unfolding scratch_words
  drop-second j e =
      let l : j ≤ m = omega (arith, h.seconds, ap length e ∙ length-replicate {A = ℕ} j 0) in
      record { words = h.words ∙ rw (e, padded-zeros m j l); keeps = h.keeps; seconds = omega arith; notes = h.notes; size = h.size }

  pub drop-third : (j : ℕ) → c ≡ replicate j 0 → ScratchHolds t m k a b []
  unfolding scratch_words
  drop-third j e =
      let l : j ≤ k = omega (arith, h.notes, ap length e ∙ length-replicate {A = ℕ} j 0) in
      record { words = h.words ∙ rw (e, padded-zeros k j l); keeps = h.keeps; seconds = h.seconds; notes = omega arith; size = h.size }

  -- the other way: a section without entries has m zeros
  pub zeros-second : b ≡ [] → ScratchHolds t m k a (replicate m 0) c
  unfolding scratch_words
  zeros-second e =
      record {
        words = h.words ∙ rw (e, padded-zeros m m (omega arith));
        keeps = h.keeps;
        seconds = rw (length-replicate {A = ℕ} m 0) (omega arith);
        notes = h.notes;
        size = h.size;
      }

  -- ---- reading

  pub first_entry : (i : ℕ) → i < length a → word_at t i ≡ get_or a i 0
  first_entry i l =
      rw (h.words, scratch-word m k a b c i)
      (get_or-append (padded m a) (padded m b ++ padded k c) 0 i (rw (length-padded m a h.keeps) (omega (arith, h.keeps))) ∙ padded-entry m a i l)

  pub second-entry : (i : ℕ) → i < length b → word_at t (m + i) ≡ get_or b i 0
  second-entry i l =
      let z : m + i ≡ length (padded m a) + i = omega (arith, length-padded m a h.keeps) in
      rw (h.words, scratch-word m k a b c (m + i), z)
      (get_or-append-add (padded m a) (padded m b ++ padded k c) i 0
      ∙ get_or-append (padded m b) (padded k c) 0 i (rw (length-padded m b h.seconds) (omega (arith, h.seconds)))
      ∙ padded-entry m b i l)

  pub third-entry : (i : ℕ) → i < length c → word_at t (2 * m + i) ≡ get_or c i 0
  third-entry i l =
      let z : 2 * m + i ≡ length (padded m a) + (length (padded m b) + i) = omega (arith, length-padded m a h.keeps, length-padded m b h.seconds) in
      rw (h.words, scratch-word m k a b c (2 * m + i), z)
      (get_or-append-add (padded m a) (padded m b ++ padded k c) (length (padded m b) + i) 0
      ∙ get_or-append-add (padded m b) (padded k c) i 0 ∙ padded-entry k c i l)

  -- the sections' entries as the numbers that stand there
  pub first-numbers : numbers_at t 0 (length a) ≡ a
  first-numbers =
      rw (h.words, scratch-numbers m k a b c 0 (length a))
      (unfold padded in
      rw (append_assoc a (replicate (m - length a) 0) (padded m b ++ padded k c))
      (take_at a (replicate (m - length a) 0 ++ (padded m b ++ padded k c)) (length a) refl))

  pub second-numbers : numbers_at t m (length b) ≡ b
  second-numbers =
      rw (h.words, scratch-numbers m k a b c m (length b), drop_at (padded m a) (padded m b ++ padded k c) m (length-padded m a h.keeps))
      (unfold padded in rw (append_assoc b (replicate (m - length b) 0) (padded k c)) (take_at b (replicate (m - length b) 0 ++ padded k c) (length b) refl))

  pub third-numbers : numbers_at t (2 * m) (length c) ≡ c
  third-numbers =
      let z : length (padded m a ++ padded m b) ≡ 2 * m =
      length-append (padded m a) (padded m b)
      ∙ omega (arith, length-padded m a h.keeps, length-padded m b h.seconds) in
      rw (
        h.words,
        scratch-numbers m k a b c (2 * m) (length c),
        ← append_assoc (padded m a) (padded m b) (padded k c),
        drop_at (padded m a ++ padded m b) (padded k c) (2 * m) z,
      )
      (unfold padded in take_at c (replicate (k - length c) 0) (length c) refl)

-- ---- clearing

-- the first i entries of a list set to zero
unfoldable zeroed : ℕ → List ℕ → List ℕ
zeroed zero l = l
zeroed (suc i) l = set (zeroed i l) i 0

zeroed-length : (i : ℕ) (l : List ℕ) → length (zeroed i l) ≡ length l
unfolding zeroed
zeroed-length zero l = refl
zeroed-length (suc i) l = length-set (zeroed i l) i 0 ∙ zeroed-length i l

zeroed-below : (i : ℕ) (l : List ℕ) (p : ℕ) → p < i → i ≤ length l → get_or (zeroed i l) p 0 ≡ 0
unfolding zeroed
zeroed-below zero l p h k = absurd (omega arith)
zeroed-below (suc i) l p h k =
    elim (dec_eq p i) [
      | yes e ↦ rw e (get_or-set_same (zeroed i l) i 0 0 (omega (arith, zeroed-length i l)))
      | no e ↦ get_or-set_other (zeroed i l) i p 0 0 e ∙ zeroed-below i l p (omega arith) (omega arith)
    ]

zeroed-all : (l : List ℕ) → zeroed (length l) l ≡ replicate (length l) 0
zeroed-all l =
    ext_get_or 0 (zeroed (length l) l) (replicate (length l) 0) (zeroed-length (length l) l ∙ sym (length-replicate {A = ℕ} (length l) 0))
    (λ p h. let k : p < length l = omega (arith, h, zeroed-length (length l) l) in
    zeroed-below (length l) l p k (omega arith) ∙ sym (get_or-replicate {A = ℕ} (length l) p 0 0 k))

module _ {t : List ℤ} {m k : ℕ} {a b c : List ℕ} (h : ScratchHolds t m k a b c) where
  wiping-first : (i : ℕ) → i ≤ length a → ScratchHolds (wiped t 0 i) m k (zeroed i a) b c
  unfolding wiped zeroed
  wiping-first zero l = h
  wiping-first (suc i) l = let z : 0 + i ≡ i = omega arith in rw z (change-first (wiping-first i (omega arith)) i 0 (omega (arith, zeroed-length i a)))

  wiping-second : (i : ℕ) → i ≤ length b → ScratchHolds (wiped t m i) m k a (zeroed i b) c
  unfolding wiped zeroed
  wiping-second zero l = h
  wiping-second (suc i) l = change-second (wiping-second i (omega arith)) i 0 (omega (arith, zeroed-length i b))

  wiping-third : (i : ℕ) → i ≤ length c → ScratchHolds (wiped t (2 * m) i) m k a b (zeroed i c)
  unfolding wiped zeroed
  wiping-third zero l = h
  wiping-third (suc i) l = change-third (wiping-third i (omega arith)) i 0 (omega (arith, zeroed-length i c))

  pub wipe-first : ScratchHolds (wiped t 0 (length a)) m k [] b c
  wipe-first = drop-first (wiping-first (length a) (omega arith)) (length a) (zeroed-all a)

  pub wipe-second : ScratchHolds (wiped t m (length b)) m k a [] c
  wipe-second = drop-second (wiping-second (length b) (omega arith)) (length b) (zeroed-all b)

  pub wipe-third : ScratchHolds (wiped t (2 * m) (length c)) m k a b []
  wipe-third = drop-third (wiping-third (length c) (omega arith)) (length c) (zeroed-all c)

-- wiping writes a run of zeros
pub wiped-paste : (t : List ℤ) (p n : ℕ) → p + n ≤ length t → wiped t p n ≡ paste t p (replicate n (pos 0)) n
unfolding wiped
wiped-paste t p zero h = paste-zero t p []
wiped-paste t p (suc n) h = rw (wiped-paste t p n (omega arith)) (rw add-one at (fill_from_more t p n (pos 0) (omega arith)))
