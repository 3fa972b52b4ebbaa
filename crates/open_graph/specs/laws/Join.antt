-- Rows and the list that they make, one behind another.
use Prim.Native.Nat.{ℕ, zero, suc, ◌+◌, ◌<◌}
use Rattle.std.proofs.Common.{arith, ap, ◌∙◌, length-append, length-drop, take-append-drop, take_at, drop_at}
use Rattle.std.specs.Prelude.{◌≡◌, Bool, true, ℤ, pos, negsuc, ltb, length, drop}
use Rattle.std.proofs.Math.Path.{refl}
use mathlib.Core.List.{List, [], ◌∷◌, map}
use Rattle.graph.specs.Basic.{all, below}
use Rattle.graph.specs.laws.State.{and_left, and_right}
use Rattle.graph.specs.laws.Members.{clash, all_append, all_snoc}
use Rattle.graph.specs.Word.{to_nat}
use Rattle.graph.specs.Rows.{rows}
use Rattle.graph.specs.Opening.{flattened}
use Rattle.graph.specs.laws.Place.{map-append}
use Rattle.open_graph.specs.laws.Blank.{total_of}

-- flattened rows, cut again
pub rows-joined : (r : List (List ℕ)) → rows (map length r) (flattened r) ≡ r
unfolding rows flattened
rows-joined [] = refl
rows-joined (l ∷ r) = rw (take_at l (flattened r) (length l) refl, drop_at l (flattened r) (length l) refl, rows-joined r)

pub length-joined : (r : List (List ℕ)) → length (flattened r) ≡ total_of (map length r)
unfolding flattened total_of
length-joined [] = refl
length-joined (l ∷ r) = length-append l (flattened r) ∙ ap (λ k. length l + k) (length-joined r)

empty : (w : List ℕ) → length w ≡ 0 → [] ≡ w
empty [] h = refl
empty (x ∷ w) h = absurd (omega arith)

-- a list cut into rows of its whole length, flattened again
pub joined-rows : (ns w : List ℕ) → length w ≡ total_of ns → flattened (rows ns w) ≡ w
unfolding rows flattened total_of
joined-rows [] w h = empty w h
joined-rows (n ∷ ns) w h = rw (joined-rows ns (drop n w) (length-drop n w ∙ omega arith)) (take-append-drop n w)

-- ---- words that are no negative ones

abbrev pub is_word : ℕ → Bool
is_word x = ltb x 9223372036854775807

-- a block whose numbers are all below the greatest has these numbers as its words
pub plain : (b : List ℤ) (w : List ℕ) → map to_nat b ≡ w → all is_word w ≡ true → b ≡ map pos w
unfolding to_nat all
plain b w e h = rw (← e) (go b (rw (← e) at h))
  where
    go : (b : List ℤ) → all is_word (map to_nat b) ≡ true → b ≡ map pos (map to_nat b)
    go [] h = refl
    go (pos n ∷ b) h = ap (λ r. pos n ∷ r) (go b (and_right (is_word n) (all is_word (map to_nat b)) h))
    go (negsuc n ∷ b) h = clash (is_word 9223372036854775807) (and_left (is_word 9223372036854775807) (all is_word (map to_nat b)) h) refl

pub numbers-plain : (w : List ℕ) → map to_nat (map pos w) ≡ w
unfolding to_nat
numbers-plain [] = refl
numbers-plain (x ∷ w) = ap (λ r. x ∷ r) (numbers-plain w)

-- ---- a test that every entry passes

module _ {A : Type 0} (p : A → Bool) where
  pub all-joined : (r : List (List A)) → all (all p) r ≡ true → all p (flattened r) ≡ true
  unfolding all flattened
  all-joined [] h = refl
  all-joined (l ∷ r) h = all_append p l (flattened r) (and_left (all p l) (all (all p) r) h) (all-joined r (and_right (all p l) (all (all p) r) h))

  pub all-table : (f : ℕ → A) (n : ℕ) → ((i : ℕ) → i < n → p (f i) ≡ true) → all p (map f (below n)) ≡ true
  unfolding all below
  all-table f zero h = refl
  all-table f (suc n) h =
      rw (map-append f (below n) (n ∷ []))
      (all_snoc p (map f (below n)) (f n) (all-table f n (λ i k. h i (omega arith))) (h n (omega arith)))
