-- Laws on the lines of answers.
use Rattle.std.specs.Prelude.{ℕ, ◌+◌, ◌≤◌, ◌<◌, ◌≡◌, Bool, List, [], ◌∷◌, ◌++◌, ℤ, length}
use Rattle.std.proofs.Common.{arith, length-append}
use Rattle.answers.specs.Answer.{flag}
use Rattle.answers.specs.declared.MaxUpdateLength.TheVariants.{NonZeroGrow}
use Rattle.records.specs.Text.{ascii, decimal, signed_text, spaced}
use Rattle.records.specs.Lines.{line, words_of_length}
use Rattle.records.specs.laws.Write.{decimal-short}

-- ---- how long numbers get

-- one number more takes 21 bytes at most
pub spaced-short : (x : ℕ) (ns : List ℕ) (m : ℕ) → x < 18446744073709551616 → length (spaced ns) ≤ m → length (spaced (x ∷ ns)) ≤ 21 + m
unfolding spaced
spaced-short x ns m h k = omega (arith, length-append (32 ∷ decimal x) (spaced ns), decimal-short x h)

pub spaced-none : length (spaced []) ≤ 0
unfolding spaced
spaced-none = omega arith

pub one-short : (x : ℕ) → x < 18446744073709551616 → length (spaced (x ∷ [])) ≤ 21
one-short x h = spaced-short x [] 0 h spaced-none

pub three-short : (x y z : ℕ) → x < 18446744073709551616 → y < 18446744073709551616 → z < 18446744073709551616 → length (spaced (x ∷ y ∷ z ∷ [])) ≤ 63
three-short x y z h i j = spaced-short x (y ∷ z ∷ []) 42 h (spaced-short y (z ∷ []) 21 i (one-short z j))

pub four-short : (w x y z : ℕ) → w < 18446744073709551616 → x < 18446744073709551616 → y < 18446744073709551616
    → z < 18446744073709551616 → length (spaced (w ∷ x ∷ y ∷ z ∷ [])) ≤ 84
four-short w x y z g h i j = spaced-short w (x ∷ y ∷ z ∷ []) 63 g (three-short x y z h i j)

-- ---- the line of a free answer

pub free-line : (k : ℕ) (x y : ℤ) (e : Bool) (w : List ℕ) (f : ℕ) → w ≡ ascii "free " ++ signed_text y → y ≡ x
    → f ≡ flag e → line k (w ++ spaced (f ∷ [])) ≡ line k (words_of_length (NonZeroGrow x e))
unfolding words_of_length
free-line k x y e w f p q r = rw (p, q, r)
