-- Tests of numbers in range.
use Rattle.std.specs.Prelude.{ℕ, ◌/◌, ◌%◌, ◌≡◌, refl, Bool, true, false, ◌&&◌, ◌||◌, leb, eqb}
use Rattle.std.proofs.Common.{arith, le-leb, eqb-true}
use Rattle.std.proofs.Math.Decide.{dec_le}
use Rattle.std.proofs.lemmas.Bool.{lt-leb}
use Rattle.graph.specs.Open.{growth_limit}
use Rattle.graph.specs.laws.Members.{by-test}
use Rattle.graph.specs.laws.State.{and_left, and_right}

-- two flags in a word
pub two-flags : (x : ℕ) → leb x 3 ≡ leb (x % 2) 1 && leb (x / 2) 1
two-flags x =
    elim (dec_le x 3) [
      | yes h ↦ rw (le-leb x 3 h, le-leb (x % 2) 1 (omega arith), le-leb (x / 2) 1 (omega arith))
      | no h ↦ rw (lt-leb x 3 (omega arith), le-leb (x % 2) 1 (omega arith), lt-leb (x / 2) 1 (omega arith))
    ]

-- a side of growth g, holder h and grandson x among n nodes, where d says whether x is stored for a defect node: first that its growth and its
-- grandson are in range and it is free or held, then that they are not
module _ (g h x n : ℕ) (d : Bool) where
  abbrev side_test : Bool
  side_test = leb g growth_limit && leb h n && leb x n && (eqb h 0 || d)

  pub side-free : leb g growth_limit && leb x n ≡ true → eqb h 0 ≡ true → true ≡ side_test
  side-free e f =
      let z : h ≡ 0 = eqb-true h 0 f in
      rw (and_left (leb g growth_limit) (leb x n) e, and_right (leb g growth_limit) (leb x n) e, f, le-leb h n (omega (arith, z)))

  pub side-held : leb g growth_limit && leb x n ≡ true → eqb h 0 ≡ false → leb h n && d ≡ side_test
  side-held e f = rw (and_left (leb g growth_limit) (leb x n) e, and_right (leb g growth_limit) (leb x n) e, f) (plain (leb h n) d)
    where
      plain : (a c : Bool) → a && c ≡ a && true && c
      plain true c = refl
      plain false c = refl

  pub side-out : leb g growth_limit && leb x n ≡ false → false ≡ side_test
  side-out e =
      by-test (leb g growth_limit)
      (λ a. let z : leb x n ≡ false = rw a at e in rw (a, z) (none (leb h n) (eqb h 0 || d)))
      (λ a. rw a)
    where
      none : (t u : Bool) → false ≡ t && false && u
      none true u = refl
      none false u = refl

-- the parts of a test in another order
pub first-fails : (a c d e : Bool) → a && c ≡ false → false ≡ c && (d && (a && e))
first-fails a c d e h =
    by-test a (λ t. let z : c ≡ false = rw t at h in rw z) (λ t. rw t (none c d))
  where
    none : (x y : Bool) → false ≡ x && (y && false)
    none true true = refl
    none true false = refl
    none false y = refl
