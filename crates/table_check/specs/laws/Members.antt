-- Where the entries of a list stand; the dual variable of a vertex.
use Rattle.std.specs.Prelude.{ℕ, zero, suc, ◌<◌, ◌≡◌, refl, ◌≢◌, true, List, [], ◌∷◌, eqb, length, get_or}
use Rattle.std.proofs.Common.{arith, sym, ap, eq-eqb, ne_eqb, eqb-true}
use Rattle.graph.specs.Basic.{member, distinct}
use Rattle.graph.specs.laws.Members.{by-test, clash, member-nil, member-cons, member-at, distinct_head, distinct_tail}
use Rattle.table_check.specs.Verdict.{given_dual_of}

-- an entry has a place
pub place_of : (x : ℕ) (l : List ℕ) → member x l ≡ true → (i : ℕ) × (i < length l) × (get_or l i 0 ≡ x)
place_of x [] h = member-nil x h
place_of x (y ∷ l) h = member-cons x y l h (λ e. (0, omega arith, sym e)) (λ e. let p = place_of x l e in (suc p.0, omega (arith, p.1), p.2))

-- entries at two places of a list without repeats differ
pub apart-places : (l : List ℕ) → distinct l ≡ true → (i j : ℕ) → i < length l → j < length l → i ≢ j → get_or l i 0 ≢ get_or l j 0
apart-places [] d i j h k n e = omega arith
apart-places (x ∷ l) d zero zero h k n e = n refl
apart-places (x ∷ l) d zero (suc j) h k n e = clash (member x l) (rw (← e) at (member-at l j 0 (omega arith))) (distinct_head x l d)
apart-places (x ∷ l) d (suc i) zero h k n e = clash (member x l) (rw e at (member-at l i 0 (omega arith))) (distinct_head x l d)
apart-places (x ∷ l) d (suc i) (suc j) h k n e = apart-places l (distinct_tail x l d) i j (omega arith) (omega arith) (λ q. n (ap suc q)) e

-- the dual variable of the vertex of defect i is that of the defect
pub dual-of-defect : (xs ys : List ℕ) → distinct xs ≡ true → length ys ≡ length xs → (i : ℕ) → i < length xs → given_dual_of xs ys (get_or xs i 0) ≡ get_or ys i 0
unfolding given_dual_of
dual-of-defect [] ys d n i h = absurd (omega arith)
dual-of-defect (x ∷ xs) [] d n i h = absurd (omega arith)
dual-of-defect (x ∷ xs) (y ∷ ys) d n zero h = rw (eq-eqb x x refl)
dual-of-defect (x ∷ xs) (y ∷ ys) d n (suc i) h =
    let ih = dual-of-defect xs ys (distinct_tail x xs d) (omega arith) i (omega arith) in
    let q : get_or xs i 0 ≢ x = λ e. clash (member x xs) (rw e at (member-at xs i 0 (omega arith))) (distinct_head x xs d) in
    rw (ne_eqb (get_or xs i 0) x q) ih

-- a vertex whose dual variable is above 0 is that of a defect
pub defect-of-dual : (xs ys : List ℕ) (a : ℕ) → length ys ≡ length xs → 0 < given_dual_of xs ys a
    → (i : ℕ) × (i < length xs) × (get_or xs i 0 ≡ a) × (get_or ys i 0 ≡ given_dual_of xs ys a)
unfolding given_dual_of
defect-of-dual [] ys a n h = absurd (omega arith)
defect-of-dual (x ∷ xs) [] a n h = absurd (omega arith)
defect-of-dual (x ∷ xs) (y ∷ ys) a n h =
    by-test (eqb a x)
    (λ t. rw t (0, omega arith, sym (eqb-true a x t), refl))
    (λ t. rw t (let p = defect-of-dual xs ys a (omega arith) (rw t at h) in (suc p.0, omega (arith, p.1), p.2, p.3)))
