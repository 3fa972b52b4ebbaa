-- The active list beside one to which a node is pushed whenever it may be new: the same list with the first of equal entries kept.
use Rattle.std.specs.Prelude.{ℕ, ◌≡◌, refl, Bool, not, eqb}
use Rattle.std.proofs.Math.Decide.{ℕ_discrete as dec_eq}
use Rattle.std.proofs.Common.{ap, ◌∙◌, sym, subst, eq-eqb, ne_eqb}
use Rattle.std.proofs.Math.Logic.{by_cases}
use Rattle.std.proofs.Math.Bool.{true, false}
use mathlib.Core.List.{List, [], ◌∷◌, ◌++◌, append-nil}
use Rattle.graph.specs.Basic.{any, only, member}
use Rattle.graph.specs.Active.{joined_to}
use Rattle.graph.specs.laws.Members.{by-test, clash, member-head, member-tail, member-cons, only-member, member-only}

abbrev other : ℕ → ℕ → Bool
other x y = not (eqb y x)

-- the first of equal entries
unfoldable pub firsts : List ℕ → List ℕ
firsts [] = []
firsts (x ∷ l) = x ∷ only (other x) (firsts l)

only-append : (p : ℕ → Bool) (xs ys : List ℕ) → only p (xs ++ ys) ≡ only p xs ++ only p ys
unfolding only
only-append p [] ys = refl
only-append p (x ∷ xs) ys = by-test (p x) (λ e. rw e (ap (λ (l : List ℕ). x ∷ l) (only-append p xs ys))) (λ e. rw e (only-append p xs ys))

only-swap : (p q : ℕ → Bool) (l : List ℕ) → only p (only q l) ≡ only q (only p l)
unfolding only
only-swap p q [] = refl
only-swap p q (x ∷ l) =
    let ih : only p (only q l) ≡ only q (only p l) = only-swap p q l in
    by-test (p x)
    (λ e. by-test (q x) (λ f. rw (e, f, e) (ap (λ (k : List ℕ). x ∷ k) ih)) (λ f. rw (e, f) ih))
    (λ e. by-test (q x) (λ f. rw (e, f, e) ih) (λ f. rw (e, f) ih))

-- an entry that the test drops anyway
only-dropped : (p : ℕ → Bool) (x : ℕ) → p x ≡ false → (l : List ℕ) → only p (only (other x) l) ≡ only p l
unfolding only
only-dropped p x h [] = refl
only-dropped p x h (y ∷ l) =
    let ih : only p (only (other x) l) ≡ only p l = only-dropped p x h l in
    by_cases (dec_eq y x)
    (λ e. rw (eq-eqb y x e, ap p e ∙ h) ih)
    (λ e. rw (ne_eqb y x e) (by-test (p y) (λ f. rw f (ap (λ (k : List ℕ). y ∷ k) ih)) (λ f. rw f ih)))

-- pushing always, and keeping the first: joining
pub pushed-joins : (l : List ℕ) (n : ℕ) → firsts (l ++ (n ∷ [])) ≡ joined_to (firsts l) n
unfolding firsts joined_to only member any
pushed-joins [] n = refl
pushed-joins (x ∷ l) n = ap (λ (k : List ℕ). x ∷ only (other x) k) (unfold firsts joined_to only member any in (pushed-joins l n)) ∙ step x n (firsts l)
  where
    step : (x n : ℕ) (k : List ℕ) → x ∷ only (other x) (joined_to k n) ≡ joined_to (x ∷ only (other x) k) n
    step x n k =
        by_cases (dec_eq n x)
        (λ e.
        let i : member n (x ∷ only (other x) k) ≡ true = subst (λ (y : ℕ). member y (x ∷ only (other x) k) ≡ true) (sym e) (member-head x (only (other x) k)) in
        let no : only (other x) (n ∷ []) ≡ [] = unfold only in (rw (eq-eqb n x e) refl) in
        by-test (member n k)
        (λ h. unfold joined_to in (rw (i, h) refl))
        (λ h. unfold joined_to in (rw (i, h, only-append (other x) k (n ∷ []), no, append-nil (only (other x) k)) refl)))
        (λ e.
        let one : only (other x) (n ∷ []) ≡ n ∷ [] = unfold only in (rw (ne_eqb n x e) refl) in
        by-test (member n k)
        (λ h.
        let i : member n (x ∷ only (other x) k) ≡ true = member-tail n x (only (other x) k) (only-member (other x) k n h (rw (ne_eqb n x e) refl)) in
        unfold joined_to in (rw (i, h) refl))
        (λ h.
        let i : member n (x ∷ only (other x) k) ≡ false =
        by-test (member n (x ∷ only (other x) k))
        (λ j. member-cons n x (only (other x) k) j (λ v. absurd (e v))
        (λ v. clash (member n k) (member-only (other x) k n v).0 h))
        (λ j. j) in
        unfold joined_to in (rw (i, h, only-append (other x) k (n ∷ []), one) refl)))

-- renewal may keep the first before or after it drops nodes
pub renewed-firsts : (p : ℕ → Bool) (l : List ℕ) → only p (firsts l) ≡ firsts (only p l)
unfolding firsts only
renewed-firsts p [] = refl
renewed-firsts p (x ∷ l) =
    let ih : only p (firsts l) ≡ firsts (only p l) = renewed-firsts p l in
    by-test (p x)
    (λ e. rw e (ap (λ (k : List ℕ). x ∷ k) (only-swap p (other x) (firsts l) ∙ ap (only (other x)) ih)))
    (λ e. rw e (only-dropped p x e (firsts l) ∙ ih))
