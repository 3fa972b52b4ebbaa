-- The loops over the active nodes' answers: what is still to come gives the whole.
use Rattle.std.specs.Prelude.{ℕ, ◌+◌, ◌≤◌, ◌<◌, ◌≡◌, refl, ◌≢◌, Bool, true, false, ℤ, pos, negsuc, length, get_or, take, drop, if◌then◌else◌}
use Rattle.std.proofs.Common.{arith, add-one, sym, ◌∙◌, drop_of_length-le, drop-cons, take-suc}
use Rattle.std.proofs.Math.Path.{ap}
use mathlib.Core.List.{List, [], ◌∷◌, ◌++◌}
use Rattle.std.specs.Int.Signed.{lt_z}
use borrow.Author.Tests.{eq-eqb, ne_eqb, ltb-true, ltb-false, le-leb, lt-leb}
use Rattle.graph.specs.Basic.{all, fold, only}
use Rattle.graph.specs.State.{State}
use Rattle.graph.specs.laws.Members.{clash}
use Rattle.active_list.specs.laws.Renewal.{only-snoc}
use Rattle.answers.specs.Outcome.{Answer}
use Rattle.update_length.specs.Scan.{lesser}
use Rattle.calls.specs.Group.{GroupMaxUpdateLength as Group}
use Rattle.calls.specs.Round.{refusal_of, answers_of, first_refusal, is_free, is_conflict, join_free, conflicts_of}
use Rattle.round_answers.specs.inner.Asked.{answer_of}

next : (c : State) (l : List ℕ) (i : ℕ) → i < length l → answers_of c (drop i l) ≡ answer_of c (get_or l i 0) ∷ answers_of c (drop (i + 1) l)
unfolding answers_of answer_of
next c l i h = rw (add-one, drop-cons l i 0 h) refl

none : (c : State) (l : List ℕ) (i : ℕ) → length l ≤ i → answers_of c (drop i l) ≡ []
unfolding answers_of
none c l i h = rw (drop_of_length-le l h) refl

module _ (c : State) (l : List ℕ) (i : ℕ) where
  -- ---- the first refusal

  module _ (e : first_refusal (answers_of c (drop i l)) ≡ first_refusal (answers_of c l)) where
    module _ (h : i < length l) (r : ℕ) (a : r ≡ refusal_of (answer_of c (get_or l i 0))) where
      pub refusal-here : r ≢ 0 → r ≡ first_refusal (answers_of c l)
      unfolding first_refusal
      refusal-here z = a ∙ (rw (next c l i h, ne_eqb (refusal_of (answer_of c (get_or l i 0))) 0 (λ q. z (a ∙ q))) at e)

      pub refusal-more : r ≡ 0 → first_refusal (answers_of c (drop (i + 1) l)) ≡ first_refusal (answers_of c l)
      unfolding first_refusal
      refusal-more z = rw (next c l i h, eq-eqb (refusal_of (answer_of c (get_or l i 0))) 0 (sym a ∙ z)) at e

    pub refusal-none : length l ≤ i → 0 ≡ first_refusal (answers_of c l)
    unfolding first_refusal
    refusal-none h = rw (none c l i h) at e

  -- ---- all free

  module _ (e : all is_free (answers_of c (drop i l)) ≡ all is_free (answers_of c l)) where
    module _ (h : i < length l) where
      pub free_more : is_free (answer_of c (get_or l i 0)) ≡ true → all is_free (answers_of c (drop (i + 1) l)) ≡ all is_free (answers_of c l)
      unfolding all
      free_more t = rw (next c l i h, t) at e

      pub free-not : is_free (answer_of c (get_or l i 0)) ≡ false → false ≡ all is_free (answers_of c l)
      unfolding all
      free-not t = rw (next c l i h, t) at e

    pub free_all : length l ≤ i → true ≡ all is_free (answers_of c l)
    unfolding all
    free_all h = rw (none c l i h) at e

  -- ---- what is left to all

  module _ (g g₀ : Group) (e : fold join_free g (answers_of c (drop i l)) ≡ fold join_free g₀ (answers_of c l)) where
    pub group-more : i < length l → fold join_free (join_free g (answer_of c (get_or l i 0))) (answers_of c (drop (i + 1) l)) ≡ fold join_free g₀ (answers_of c l)
    unfolding fold
    group-more h = rw (next c l i h) at e

    pub group-all : length l ≤ i → g ≡ fold join_free g₀ (answers_of c l)
    unfolding fold
    group-all h = rw (none c l i h) at e

-- ---- conflicts, from the front

answers-snoc : (c : State) (xs : List ℕ) (n : ℕ) → answers_of c (xs ++ (n ∷ [])) ≡ answers_of c xs ++ (answer_of c n ∷ [])
unfolding answers_of answer_of
answers-snoc c [] n = refl
answers-snoc c (x ∷ xs) n =
    let ih : answers_of c (xs ++ (n ∷ [])) ≡ answers_of c xs ++ (answer_of c n ∷ []) = unfold answers_of answer_of in (answers-snoc c xs n) in
    ap (λ (r : List Answer). answer_of c x ∷ r) ih

pub conflicts-more : (c : State) (l : List ℕ) (i : ℕ) → i < length l
    → conflicts_of (answers_of c (take (i + 1) l))
    ≡ conflicts_of (answers_of c (take i l))
    ++ (if is_conflict (answer_of c (get_or l i 0)) then answer_of c (get_or l i 0) ∷ [] else [])
unfolding conflicts_of
conflicts-more c l i h =
    let a : Answer = answer_of c (get_or l i 0) in
    let xs : List Answer = answers_of c (take i l) in
    let z : take (i + 1) l ≡ take i l ++ (get_or l i 0 ∷ []) = rw (add-one, take-suc l i 0 h) refl in
    rw (z, answers-snoc c (take i l) (get_or l i 0)) (only-snoc is_conflict xs a ∙ go (is_conflict a) a (only is_conflict xs))
  where
    nil : (l : List Answer) → l ≡ l ++ []
    nil [] = refl
    nil (x ∷ l) = ap (λ r. x ∷ r) (nil l)

    go : (t : Bool) (a : Answer) (l : List Answer) → (if t then l ++ (a ∷ []) else l) ≡ l ++ (if t then a ∷ [] else [])
    go true a l = refl
    go false a l = nil l

-- ---- the lesser of two lengths

pub lesser-first : (x y : ℤ) → lt_z x y ≡ true → x ≡ lesser x y
unfolding lesser
lesser-first (pos a) (pos b) h = let k : a < b = ltb-true a b h in ap pos (omega arith)
lesser-first (pos a) (negsuc b) h = clash false h refl
lesser-first (negsuc a) (pos b) h = refl
lesser-first (negsuc a) (negsuc b) h = let k : b < a = ltb-true b a h in rw (lt-leb a b k) refl

pub lesser-second : (x y : ℤ) → lt_z x y ≡ false → y ≡ lesser x y
unfolding lesser
lesser-second (pos a) (pos b) h = let k : b ≤ a = ltb-false a b h in ap pos (omega arith)
lesser-second (pos a) (negsuc b) h = refl
lesser-second (negsuc a) (pos b) h = clash true refl h
lesser-second (negsuc a) (negsuc b) h = let k : a ≤ b = ltb-false b a h in rw (le-leb a b k) refl
