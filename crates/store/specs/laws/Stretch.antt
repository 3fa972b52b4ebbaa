-- A stretch of a row of a block written at once: all of the block outside of it is as it was.
use Rattle.std.specs.Prelude.{ℕ, zero, suc, ◌+◌, ◌-◌, ◌≤◌, ◌<◌, ◌≡◌, refl, List, [], ◌∷◌, ◌++◌, ℤ, pos, map, length, set, get_or, take, drop, replicate}
use Rattle.std.proofs.Common.{arith, sym, ap, subst, ◌∙◌, length-drop, get_or-take, append-nil}
use Rattle.std.proofs.Math.Decide.{dec_lt}
use Rattle.std.proofs.Math.ListN.{length-take, get_or-map}
use Rattle.std.proofs.Math.Seq.{get_or-drop}
use Rattle.std.proofs.lemmas.List.{ext_get_or, get_or_past, get_or-replicate, length-map, length-replicate, get_or_default, take_all, drop_all, places}
use borrow.Rule.Slice.PartMut.{put_mid}
use Rattle.graph.specs.Word.{to_nat, word_at}
use Rattle.graph.specs.Rows.{rows, offset}
use Rattle.graph.specs.Layout.{sizes_of, rows_of, row}
use Rattle.graph.specs.Opening.{zeros}
use Rattle.graph.specs.Form.{Sized, Counted, Laid}
use Rattle.graph.specs.inner.Form.{Rowed}
use Rattle.graph.specs.inner.Found.{Found}
use Rattle.graph.specs.laws.Row.{rows_get, counted_of, numbers-get}
use Rattle.std.specs.List.{CopiedTo, SameBelow, SameFrom}
use Rattle.store.specs.inner.Wrote.{Wrote}

-- ---- lists cut into rows

module _ {A : Type 0} (d : A) where
  take_same : (n : ℕ) (w w' : List A) → length w' ≡ length w → ((p : ℕ) → p < n → get_or w' p d ≡ get_or w p d) → take n w' ≡ take n w
  take_same n w w' l h =
      ext_get_or d (take n w') (take n w) (omega (arith, length-take n w', length-take n w))
      (λ i j. let k : i < n = omega (arith, length-take n w') in get_or-take n w' i d k ∙ h i k ∙ sym (get_or-take n w i d k))

  drop_same : (n : ℕ) (w w' : List A) → length w' ≡ length w → ((p : ℕ) → n ≤ p → get_or w' p d ≡ get_or w p d) → drop n w' ≡ drop n w
  drop_same n w w' l h =
      ext_get_or d (drop n w') (drop n w) (omega (arith, length-drop n w', length-drop n w))
      (λ i j. get_or-drop n w' i d ∙ h (n + i) (omega arith) ∙ sym (get_or-drop n w i d))

  -- what changes inside row k changes row k alone
  rows-stretch : (ns : List ℕ) (w w' : List A) (k : ℕ) → length w' ≡ length w
      → ((p : ℕ) → p < offset ns k → get_or w' p d ≡ get_or w p d)
      → ((p : ℕ) → offset ns k + get_or ns k 0 ≤ p → get_or w' p d ≡ get_or w p d)
      → rows ns w' ≡ set (rows ns w) k (get_or (rows ns w') k [])
  unfolding rows offset
  rows-stretch [] w w' k l h j = refl
  rows-stretch (n ∷ ns) w w' zero l h j = ap (λ r. take n w' ∷ rows ns r) (drop_same n w w' l (λ p i. j p (omega arith)))
  rows-stretch (n ∷ ns) w w' (suc k) l h j =
      rw (take_same n w w' l (λ p i. h p (omega arith)))
      (ap (λ r. take n w ∷ r)
      (rows-stretch ns (drop n w) (drop n w') k (omega (arith, length-drop n w', length-drop n w))
      (λ p i. get_or-drop n w' p d ∙ h (n + p) (omega arith) ∙ sym (get_or-drop n w p d))
      (λ p i. get_or-drop n w' p d ∙ j (n + p) (omega arith) ∙ sym (get_or-drop n w p d))))

  rows-size : (ns : List ℕ) (w w' : List A) (k : ℕ) → length w' ≡ length w → length (get_or (rows ns w') k []) ≡ length (get_or (rows ns w) k [])
  unfolding rows
  rows-size [] w w' k l = refl
  rows-size (n ∷ ns) w w' zero l = omega (arith, length-take n w', length-take n w)
  rows-size (n ∷ ns) w w' (suc k) l = rows-size ns (drop n w) (drop n w') k (omega (arith, length-drop n w', length-drop n w))

  rows-past : (ns : List ℕ) (w : List A) (k p : ℕ) → get_or ns k 0 ≤ p → get_or (get_or (rows ns w) k []) p d ≡ d
  unfolding rows
  rows-past [] w k p h = refl
  rows-past (n ∷ ns) w zero p h = get_or_past (take n w) p d (omega (arith, length-take n w))
  rows-past (n ∷ ns) w (suc k) p h = rows-past ns (drop n w) k p h

  -- how long a row is, at most
  rows-within : (ns : List ℕ) (w : List A) (k : ℕ) → length (get_or (rows ns w) k []) ≤ get_or ns k 0
  unfolding rows
  rows-within [] w k = omega arith
  rows-within (n ∷ ns) w zero = omega (arith, length-take n w)
  rows-within (n ∷ ns) w (suc k) = rows-within ns (drop n w) k

  rows-end : (ns : List ℕ) (w : List A) (k : ℕ) → offset ns k ≤ length w → offset ns k + length (get_or (rows ns w) k []) ≤ length w
  unfolding rows offset
  rows-end [] w k h = h
  rows-end (n ∷ ns) w zero h = omega (arith, length-take n w)
  rows-end (n ∷ ns) w (suc k) h =
      let e = length-drop n w in
      let i : offset ns k ≤ length (drop n w) = omega arith in
      omega (arith, rows-end ns (drop n w) k i)

-- ---- a block with a stretch of row k written, from place lo of it on, which stands at a

module _ (b b' : List ℤ) (k lo n a : ℕ) (q : Laid b) (s : Found b k lo a) (h : lo + n ≤ length (row (rows_of b) k))
    (len : length b' ≡ length b)
    (below : (p : ℕ) → p < a → get_or b' p (pos 0) ≡ get_or b p (pos 0))
    (above : (p : ℕ) → a + n ≤ p → get_or b' p (pos 0) ≡ get_or b p (pos 0)) where
  word-below : (p : ℕ) → p < a → word_at b' p ≡ word_at b p
  unfolding word_at
  word-below p i = ap to_nat (below p i)

  word-above : (p : ℕ) → a + n ≤ p → word_at b' p ≡ word_at b p
  unfolding word_at
  word-above p i = ap to_nat (above p i)

  sizes-same : sizes_of b' ≡ sizes_of b
  sizes-same =
      rw (
        word-below 0 (omega (arith, s.behind)),
        word-below 1 (omega (arith, s.behind)),
        word-below 2 (omega (arith, s.behind)),
        word-below 3 (omega (arith, s.behind)),
      ) refl

  row-inside : (p : ℕ) → p < get_or (sizes_of b) k 0 → get_or (row (rows_of b') k) p 0 ≡ word_at b' (offset (sizes_of b) k + p)
  row-inside p i =
      sym
      (rows_get b' k p (offset (sizes_of b) k + p)
      (record { place = ap (λ z. offset z k + p) (sym sizes-same); within = subst (λ z. p < get_or z k 0) (sym sizes-same) i }))

  row-outside : (p : ℕ) → get_or (sizes_of b) k 0 ≤ p → get_or (row (rows_of b') k) p 0 ≡ 0
  unfolding rows_of
  row-outside p i = rows-past 0 (sizes_of b') (map to_nat b') k p (subst (λ z. get_or z k 0 ≤ p) (sym sizes-same) i)

  row-was : (p : ℕ) → (word_at b' (offset (sizes_of b) k + p) ≡ word_at b (offset (sizes_of b) k + p))
      → get_or (row (rows_of b') k) p 0 ≡ get_or (row (rows_of b) k) p 0
  unfolding rows_of
  row-was p e = elim (dec_lt p (get_or (sizes_of b) k 0)) [
    | yes i ↦ row-inside p i ∙ e ∙ rows_get b k p _ (record { place = refl; within = i })
    | no i ↦ row-outside p (omega arith) ∙ sym (rows-past 0 (sizes_of b) (map to_nat b) k p (omega arith))
  ]

  number-below : (p : ℕ) → p < a → get_or (map to_nat b') p 0 ≡ get_or (map to_nat b) p 0
  number-below p i = numbers-get b' p ∙ word-below p i ∙ sym (numbers-get b p)

  number-above : (p : ℕ) → a + n ≤ p → get_or (map to_nat b') p 0 ≡ get_or (map to_nat b) p 0
  number-above p i = numbers-get b' p ∙ word-above p i ∙ sym (numbers-get b p)

  numbers-length : length (map to_nat b') ≡ length (map to_nat b)
  numbers-length = length-map b' to_nat ∙ len ∙ sym (length-map b to_nat)

  row-size : length (row (rows_of b') k) ≡ length (row (rows_of b) k)
  unfolding rows_of
  row-size =
      ap (λ z. length (get_or (rows z (map to_nat b')) k [])) sizes-same
      ∙ rows-size 0 (sizes_of b) (map to_nat b) (map to_nat b') k numbers-length

  rows-stretched : rows_of b' ≡ set (rows_of b) k (row (rows_of b') k)
  unfolding rows_of
  rows-stretched =
      let m = rows-within 0 (sizes_of b) (map to_nat b) k in
      ap (λ z. rows z (map to_nat b')) sizes-same
      ∙ rows-stretch 0 (sizes_of b) (map to_nat b) (map to_nat b') k numbers-length
      (λ p i. number-below p (omega (arith, s.stands.place)))
      (λ p i. number-above p (omega (arith, s.stands.place)))
      ∙ ap (λ z. set (rows (sizes_of b) (map to_nat b)) k (get_or (rows z (map to_nat b')) k [])) (sym sizes-same)

  sized-stretch : Sized b'
  unfolding Laid
  sized-stretch =
      let w₀ = word-below 0 (omega (arith, s.behind)) in
      let w₁ = word-below 1 (omega (arith, s.behind)) in
      let w₂ = word-below 2 (omega (arith, s.behind)) in
      let w₃ = word-below 3 (omega (arith, s.behind)) in
      record {
        v-min = omega arith;
        v-max = omega arith;
        e-min = omega arith;
        e-max = omega arith;
        n-min = omega arith;
        n-max = omega arith;
        l-max = omega arith;
        len = omega arith;
      }

  rowed-stretch : Rowed k b b' (row (rows_of b') k)
  unfolding Laid
  rowed-stretch =
      let w₀ = word-below 0 (omega (arith, s.behind)) in
      let w₁ = word-below 1 (omega (arith, s.behind)) in
      let w₂ = word-below 2 (omega (arith, s.behind)) in
      let w₃ = word-below 3 (omega (arith, s.behind)) in
      let w₄ = word-below 4 (omega (arith, s.behind)) in
      let w₅ = word-below 5 (omega (arith, s.behind)) in
      let t : Counted b' = counted_of b' sized-stretch (omega arith) (omega arith) in
      record {
        laid = record { sized = sized-stretch; counted = t };
        rows = rows-stretched;
        vertices = omega arith;
        edges = omega arith;
        sides = omega arith;
        nodes = omega arith;
        node-limit = omega arith;
        store-limit = omega arith;
        len = len;
      }

  wrote-stretch : (f : ℕ → ℕ) → ((p : ℕ) → p < n → word_at b' (a + p) ≡ f (lo + p)) → Wrote k b b' lo (lo + n) f
  unfolding rows_of
  wrote-stretch f inside =
      let m = rows-within 0 (sizes_of b) (map to_nat b) k in
      record {
        still = rowed-stretch;
        inside = λ p i j.
            let y : offset (sizes_of b) k + p ≡ a + (p - lo) = omega (arith, s.stands.place) in
            let z : lo + (p - lo) ≡ p = omega arith in
            row-inside p (omega arith) ∙ rw y (inside (p - lo) (omega arith) ∙ ap f z);
        below = λ p i. row-was p (word-below (offset (sizes_of b) k + p) (omega (arith, s.stands.place)));
        above = λ p i. row-was p (word-above (offset (sizes_of b) k + p) (omega (arith, s.stands.place)));
        size = row-size;
      }

module _ (b : List ℤ) (k lo n a : ℕ) (q : Laid b) (s : Found b k lo a) (h : lo + n ≤ length (row (rows_of b) k)) where
  -- it ends within the block
  pub stretch-fits : a + n ≤ length b
  unfolding rows_of
  stretch-fits =
      let e = length-map b to_nat in
      let l = rows-end 0 (sizes_of b) (map to_nat b) k (omega (arith, s.stands.place, s.within)) in
      omega (arith, s.stands.place)

  -- the words z put there
  pub wrote-part : (m : ℕ) (z : List ℤ) (f : ℕ → ℕ) → m ≡ n → length z ≡ n → ((p : ℕ) → p < n → word_at z p ≡ f (lo + p))
      → Wrote k b (put_mid a m b z) lo (lo + n) f
  unfolding word_at
  wrote-part m z f e l inside =
      let t = stretch-fits in
      wrote-stretch b (put_mid a m b z) k lo n a q s h (grind (arith, places)) (λ p i. grind (arith, places)) (λ p i. grind (arith, places)) f
      (λ p i. ap to_nat (let y : get_or (put_mid a m b z) (a + p) (pos 0) ≡ get_or z p (pos 0) = grind (arith, places) in y) ∙ inside p i)

  -- a stretch of the same length copied there, as `copy_within` says it: n words from place from of row j on, which stands at e
  pub wrote-copied : (b' : List ℤ) (j from e m : ℕ) (f : ℕ → ℕ) → Found b j from e → from + n ≤ length (row (rows_of b) j) → m ≡ n → length b' ≡ length b
      → CopiedTo b b' e a m × SameBelow b b' a × SameFrom b b' (a + m)
      → ((p : ℕ) → p < n → get_or (row (rows_of b) j) (from + p) 0 ≡ f (lo + p)) → Wrote k b b' lo (lo + n) f
  unfolding word_at rows_of
  wrote-copied b' j from e m f g i y len t inside =
      let r = rows-within 0 (sizes_of b) (map to_nat b) j in
      wrote-stretch b b' k lo n a q s h len (λ p x. t.1 p (pos 0) x) (λ p x. t.2 p (pos 0) (omega arith)) f (λ p x.
      let z : e + (a + p - a) ≡ e + p = omega arith in
      ap to_nat (t.0 (a + p) (pos 0) (omega arith) (omega arith) ∙ ap (λ v. get_or b v (pos 0)) z)
      ∙ rows_get b j (from + p) (e + p) (record { place = omega (arith, g.stands.place); within = omega arith }) ∙ inside p x)

-- ---- a whole row

pub rowed-whole : {k n : ℕ} {b b' : List ℤ} {f : ℕ → ℕ} (w : List ℕ) → Wrote k b b' 0 n f → length w ≡ length (row (rows_of b) k) → length w ≤ n
    → ((p : ℕ) → p < length w → get_or w p 0 ≡ f p) → Rowed k b b' w
rowed-whole {k} {n} {b} {b'} w t l h e =
    let z : row (rows_of b') k ≡ w =
    ext_get_or 0 (row (rows_of b') k) w (t.size ∙ sym l) (λ p i. let j : p < length w = omega (arith, t.size) in t.inside p (omega arith) (omega arith) ∙ sym (e p j)) in
    subst (λ r. Rowed k b b' r) z t.still

-- all of it zero, as `fill` says it of a part of the block
pub rowed-zeros : (b : List ℤ) (k n a m : ℕ) (z : List ℤ) → Laid b → Found b k 0 a → length (row (rows_of b) k) ≡ n → m ≡ n
    → z ≡ replicate (length (take m (drop a b))) (pos 0) → Rowed k b (put_mid a m b z) (zeros (length (row (rows_of b) k)))
unfolding word_at to_nat
rowed-zeros b k n a m z q s h e i =
    let t = stretch-fits b k 0 n a q s (omega arith) in
    let l : length (take m (drop a b)) ≡ n = omega (arith, length-take m (drop a b), length-drop a b) in
    let y = length-replicate {A = ℕ} (length (row (rows_of b) k)) 0 in
    rw (i, l)
    (rowed-whole (zeros (length (row (rows_of b) k)))
    (wrote-part b k 0 n a q s (omega arith) m (replicate n (pos 0)) (λ p. 0) e (length-replicate n (pos 0))
    (λ p j. ap to_nat (get_or-replicate n p (pos 0) (pos 0) j)))
    y (omega arith) (λ p j. get_or-replicate {A = ℕ} (length (row (rows_of b) k)) p 0 0 (rw y at j)))

-- g of each entry of it
pub rowed-mapped : (b : List ℤ) (k n a m i : ℕ) (z : List ℤ) (g : ℕ → ℕ) → Laid b → Found b k 0 a → length (row (rows_of b) k) ≡ n → m ≡ n
    → length (take m (drop a b)) ≤ i → z ≡ map (λ x. pos (g (to_nat x))) (take i (take m (drop a b))) ++ drop i (take m (drop a b))
    → Rowed k b (put_mid a m b z) (map g (row (rows_of b) k))
unfolding word_at to_nat rows_of
rowed-mapped b k n a m i z g q s h e j t =
    let w : List ℤ = take m (drop a b) in
    let f = stretch-fits b k 0 n a q s (omega arith) in
    let l : length w ≡ n = omega (arith, length-take m (drop a b), length-drop a b) in
    let y = length-map (row (rows_of b) k) g in
    let r = rows-within 0 (sizes_of b) (map to_nat b) k in
    let v : z ≡ map (λ x. pos (g (to_nat x))) w = t ∙ rw (take_all i w j, drop_all i w j) (append-nil (map (λ x. pos (g (to_nat x))) w)) in
    rw v
    (rowed-whole (map g (row (rows_of b) k))
    (wrote-part b k 0 n a q s (omega arith) m (map (λ x. pos (g (to_nat x))) w) (λ p. g (get_or (row (rows_of b) k) p 0)) e
    (length-map w (λ x. pos (g (to_nat x))) ∙ l) (λ p x.
    let o : p < length (map (λ x. pos (g (to_nat x))) w) = omega (arith, length-map w (λ x. pos (g (to_nat x)))) in
    let c : get_or w p (pos 0) ≡ get_or b (a + p) (pos 0) = grind (arith, places) in
    let z₀ : 0 + p ≡ p = omega arith in
    rw z₀
    (ap to_nat (get_or_default (map (λ x. pos (g (to_nat x))) w) p (pos 0) (pos (g 0)) o ∙ get_or-map (λ x. pos (g (to_nat x))) w p (pos 0))
    ∙ ap (λ u. g (to_nat u)) c
    ∙ ap g (rows_get b k p (a + p) (record { place = omega (arith, s.stands.place); within = omega (arith, r) })))))
    y (omega arith) (λ p x. get_or_default (map g (row (rows_of b) k)) p 0 (g 0) x ∙ get_or-map g (row (rows_of b) k) p 0))
