-- The numbers in a stretch of memory.
use Rattle.std.specs.Prelude.{ℕ, ◌+◌, ◌-◌, ◌≤◌, ◌<◌, ◌≡◌, refl, true, List, [], ◌∷◌, ◌++◌, map, ℤ, pos, ltb, length, set, get_or, take, drop}
use Rattle.std.proofs.Common.{arith, add-one, sym, ap, ◌∙◌, length-drop, drop-set-lt, take-suc-set, get_or-take, get_or-drop, length-take-le, ltb-true}
use Rattle.std.proofs.lemmas.List.{length-map, drop-set-add, take-set-le}
use Rattle.std.proofs.Math.ListN.{get_or-map}
use Rattle.graph.specs.Basic.{all}
use Rattle.graph.specs.Word.{to_nat, word_at, numbers_at}
use Rattle.graph.specs.laws.Members.{all-at}

map-append : (f : ℤ → ℕ) (xs ys : List ℤ) → map f (xs ++ ys) ≡ map f xs ++ map f ys
map-append f [] ys = refl
map-append f (x ∷ xs) ys = ap (λ r. f x ∷ r) (map-append f xs ys)

pub numbers-none : (b : List ℤ) (p : ℕ) → numbers_at b p 0 ≡ []
unfolding numbers_at
numbers-none b p = refl

-- one more behind the stretch
pub numbers-push : (b : List ℤ) (p n x : ℕ) → p + n < length b → numbers_at (set b (p + n) (pos x)) p (n + 1) ≡ numbers_at b p n ++ (x ∷ [])
unfolding numbers_at to_nat
numbers-push b p n x h =
    let k : n < length (drop p b) = rw (length-drop p b) (omega arith) in
    rw (add-one, drop-set-add p b n (pos x), take-suc-set (drop p b) n (pos x) k, map-append to_nat (take n (drop p b)) (pos x ∷ []))

-- a word outside of the stretch
pub numbers-still-above : (b : List ℤ) (p n i : ℕ) (z : ℤ) → p + n ≤ i → numbers_at (set b i z) p n ≡ numbers_at b p n
unfolding numbers_at
numbers-still-above b p n i z h =
    let e : i ≡ p + (i - p) = omega arith in
    rw (e, drop-set-add p b (i - p) z, take-set-le n (drop p b) (i - p) z (omega arith))

pub numbers-still-below : (b : List ℤ) (p n i : ℕ) (z : ℤ) → i < p → numbers_at (set b i z) p n ≡ numbers_at b p n
unfolding numbers_at
numbers-still-below b p n i z h = rw (drop-set-lt p b i z h)

-- an entry of the stretch
pub numbers-entry : (b : List ℤ) (p n i : ℕ) → i < n → get_or (numbers_at b p n) i 0 ≡ word_at b (p + i)
unfolding numbers_at word_at to_nat
numbers-entry b p n i h = get_or-map to_nat (take n (drop p b)) i (pos 0) ∙ ap to_nat (get_or-take n (drop p b) i (pos 0) h ∙ get_or-drop p b i (pos 0))

pub numbers-length : (b : List ℤ) (p n : ℕ) → p + n ≤ length b → length (numbers_at b p n) ≡ n
unfolding numbers_at
numbers-length b p n h = length-map (take n (drop p b)) to_nat ∙ length-take-le n (drop p b) (rw (length-drop p b) (omega arith))

-- a word of a stretch is an entry of its numbers
pub word-entry : (l : List ℤ) (i : ℕ) → word_at l i ≡ get_or (map to_nat l) i 0
unfolding word_at to_nat
word-entry l i = sym (get_or-map to_nat l i (pos 0))

pub word_below : (m : ℕ) (l : List ℤ) (i : ℕ) → all (λ s. ltb s m) (map to_nat l) ≡ true → i < length l → word_at l i < m
word_below m l i h k = rw (word-entry l i) (ltb-true _ _ (all-at (λ s. ltb s m) (map to_nat l) i h (rw (length-map l to_nat) k)))
