-- No defect twice, by marks: each that was met carries 1.
use Rattle.std.specs.Prelude.{ℕ, ◌+◌, ◌≤◌, ◌<◌, ◌≡◌, refl, ◌≢◌, Bool, true, false, ◌&&◌, List, [], ◌∷◌, length, get_or, set, replicate}
use Rattle.std.proofs.Common.{arith, ◌∙◌, eq-eqb, ne_eqb}
use Rattle.graph.specs.Basic.{all, distinct}
use Rattle.graph.specs.inner.Scans.{once_all, Stamped}
use Rattle.graph.specs.laws.Stamp.{stamped-none, stamped-more, stamped-fails, stamped-all}
use Rattle.graph.specs.laws.Opened.{get_d-zeros}

-- the marks of the first i numbers
abbrev pub Met : List ℕ → ℕ → List ℕ → Type 0
Met l i m = Stamped 1 (λ x. true) l i m

any-number : (l : List ℕ) → all (λ x. true) l ≡ true
unfolding all
any-number [] = refl
any-number (x ∷ l) = any-number l

once_is : (l : List ℕ) → once_all (λ x. true) l ≡ distinct l
unfolding once_all
once_is l = rw (any-number l) (last (distinct l))
  where
    last : (t : Bool) → t && true ≡ t
    last true = refl
    last false = refl

pub met-none : (n : ℕ) (l : List ℕ) → Met l 0 (replicate n 0)
met-none n l = stamped-none 0 (λ x. true) l _ (λ x. omega (arith, get_d-zeros n x))

module _ {l : List ℕ} {i : ℕ} {m : List ℕ} (s : Met l i m) where
  pub met_all : length l ≤ i → true ≡ distinct l
  met_all h = stamped-all 1 (λ x. true) l i m s h ∙ once_is l

  module _ (y : ℕ) (h : i < length l) (e : y ≡ get_or l i 0) (small : y < length m) where
    pub met-more : get_or m y 0 ≢ 1 → Met l (i + 1) (set m y 1)
    met-more f = stamped-more 1 (λ x. true) l i m s y h e small (rw (ne_eqb (get_or m y 0) 1 f))

    pub met-twice : get_or m y 0 ≡ 1 → false ≡ distinct l
    met-twice f = stamped-fails 1 (λ x. true) l i m s y h e small (rw (eq-eqb (get_or m y 0) 1 f)) ∙ once_is l
