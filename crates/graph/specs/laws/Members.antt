-- Laws on the tests over lists: `all`, `any`, `member`, `distinct`, `only`, `below`, and that a list of distinct numbers below m has at most m of them.
use Rattle.std.specs.Prelude.{ℕ, zero, suc, ◌+◌, ◌≤◌, ◌<◌, ◌≡◌, ◌≢◌, Bool, false, ◌&&◌, ◌||◌, not, eqb, ltb, get_or, drop}
use Rattle.std.proofs.Common.{add-one, sym, ap, ◌∙◌, length-append, drop_of_length-le, eqb-true, eq-eqb, ne_eqb, ltb-true, lt-ltb}
use native.Mathlib.Omega.{arith}
use Rattle.std.proofs.Math.Decide.{ℕ_discrete as dec_eq}
use Rattle.std.proofs.Math.Path.{refl}
use Rattle.std.proofs.Math.Bool.{true}
use mathlib.Core.List.{List, [], ◌∷◌, ◌++◌, map, append-nil}
use Rattle.std.proofs.Math.ListN.{length}
use Rattle.std.proofs.Math.Seq.{drop-cons}
use Rattle.std.proofs.lemmas.Bool.{eqb-false, not-true}
use Rattle.graph.specs.Basic.{all, any, only, member, below, distinct, all_below}
use Rattle.graph.specs.laws.State.{if-cases, and_left, and_right}

-- ---- tests

pub clash : {P : Type 0} (t : Bool) → t ≡ true → t ≡ false → P
clash t p q = absurd (let z : ◌≡◌ {A = ℕ} 0 1 = cc in omega arith)

pub both : (a b : Bool) → a ≡ true → b ≡ true → a && b ≡ true
both true b p q = q
both false b p q = p

pub or_cases : {P : Type 0} (a b : Bool) → (a || b) ≡ true → (a ≡ true → P) → (b ≡ true → P) → P
or_cases true b h p q = p refl
or_cases false b h p q = q h

pub or_left : (a b : Bool) → a ≡ true → (a || b) ≡ true
or_left true b p = refl
or_left false b p = cc

pub or_right : (a b : Bool) → b ≡ true → (a || b) ≡ true
or_right true b p = refl
or_right false b p = p

pub or-neither-left : (a b : Bool) → (a || b) ≡ false → a ≡ false
or-neither-left true b h = h
or-neither-left false b h = refl

pub or-neither-right : (a b : Bool) → (a || b) ≡ false → b ≡ false
or-neither-right true b h = cc
or-neither-right false b h = h

pub neither : (a b : Bool) → a ≡ false → b ≡ false → (a || b) ≡ false
neither true b p q = p
neither false b p q = q

pub by-test : {P : Type 0} (t : Bool) → (t ≡ true → P) → (t ≡ false → P) → P
by-test true p q = p refl
by-test false p q = q refl

-- ---- all and any

module _ {A : Type 0} (p : A → Bool) where
  pub all_append : (xs ys : List A) → all p xs ≡ true → all p ys ≡ true → all p (xs ++ ys) ≡ true
  unfolding all
  all_append [] ys h k = k
  all_append (x ∷ xs) ys h k = both (p x) (all p (xs ++ ys)) (and_left (p x) (all p xs) h) (all_append xs ys (and_right (p x) (all p xs) h) k)

  pub all_snoc : (xs : List A) (y : A) → all p xs ≡ true → p y ≡ true → all p (xs ++ (y ∷ [])) ≡ true
  unfolding all
  all_snoc xs y h k = all_append xs (y ∷ []) h (both (p y) true k refl)

  pub all_left : (xs ys : List A) → all p (xs ++ ys) ≡ true → all p xs ≡ true
  unfolding all
  all_left [] ys h = refl
  all_left (x ∷ xs) ys h = both (p x) (all p xs) (and_left (p x) (all p (xs ++ ys)) h) (all_left xs ys (and_right (p x) (all p (xs ++ ys)) h))

  pub all_right : (xs ys : List A) → all p (xs ++ ys) ≡ true → all p ys ≡ true
  unfolding all
  all_right [] ys h = h
  all_right (x ∷ xs) ys h = all_right xs ys (and_right (p x) (all p (xs ++ ys)) h)

  pub all_first : (x : A) (xs : List A) → all p (x ∷ xs) ≡ true → p x ≡ true
  unfolding all
  all_first x xs h = and_left (p x) (all p xs) h

  pub all_others : (x : A) (xs : List A) → all p (x ∷ xs) ≡ true → all p xs ≡ true
  unfolding all
  all_others x xs h = and_right (p x) (all p xs) h

  -- one entry out of the middle
  pub all_middle : (xs : List A) (y : A) (ys : List A) → all p (xs ++ (y ∷ ys)) ≡ true → all p (xs ++ ys) ≡ true
  all_middle xs y ys h = all_append xs ys (all_left xs (y ∷ ys) h) (all_others y ys (all_right xs (y ∷ ys) h))

  -- a weaker test
  pub all_weaker : (q : A → Bool) → ((x : A) → p x ≡ true → q x ≡ true) → (xs : List A) → all p xs ≡ true → all q xs ≡ true
  unfolding all
  all_weaker q w [] h = refl
  all_weaker q w (x ∷ xs) h = both (q x) (all q xs) (w x (and_left (p x) (all p xs) h)) (all_weaker q w xs (and_right (p x) (all p xs) h))

  pub all-only : (q : A → Bool) (xs : List A) → all p xs ≡ true → all p (only q xs) ≡ true
  unfolding all only
  all-only q [] h = refl
  all-only q (x ∷ xs) h =
      let ih : all p (only q xs) ≡ true = all-only q xs (and_right (p x) (all p xs) h) in
      if-cases (λ l. all p l ≡ true) (q x) (λ e. both (p x) (all p (only q xs)) (and_left (p x) (all p xs) h) ih) (λ e. ih)

  -- the entries that pass all pass
  pub only-all : (xs : List A) → all p (only p xs) ≡ true
  unfolding all only
  only-all [] = refl
  only-all (x ∷ xs) =
      let ih : all p (only p xs) ≡ true = only-all xs in
      if-cases (λ l. all p l ≡ true) (p x) (λ e. both (p x) (all p (only p xs)) e ih) (λ e. ih)

  pub length-only : (xs : List A) → length (only p xs) ≤ length xs
  unfolding only
  length-only [] = omega arith
  length-only (x ∷ xs) = let ih : length (only p xs) ≤ length xs = length-only xs in by-test (p x) (λ e. rw e (omega arith)) (λ e. rw e (omega arith))

pub all_map : {A B : Type 0} (q : B → Bool) (f : A → B) (l : List A) → all (λ x. q (f x)) l ≡ true → all q (map f l) ≡ true
unfolding all
all_map q f [] h = refl
all_map q f (x ∷ xs) h =
    both (q (f x)) (all q (map f xs)) (and_left (q (f x)) (all (λ y. q (f y)) xs) h)
    (all_map q f xs (and_right (q (f x)) (all (λ y. q (f y)) xs) h))

pub all-unmap : {A B : Type 0} (q : B → Bool) (f : A → B) (l : List A) → all q (map f l) ≡ true → all (λ x. q (f x)) l ≡ true
unfolding all
all-unmap q f [] h = refl
all-unmap q f (x ∷ xs) h =
    both (q (f x)) (all (λ y. q (f y)) xs) (and_left (q (f x)) (all q (map f xs)) h)
    (all-unmap q f xs (and_right (q (f x)) (all q (map f xs)) h))

-- two tests that all entries pass
pub all_both : {A : Type 0} (p q : A → Bool) (l : List A) → all p l ≡ true → all q l ≡ true → all (λ x. p x && q x) l ≡ true
unfolding all
all_both p q [] h k = refl
all_both p q (x ∷ xs) h k =
    both (p x && q x) (all (λ y. p y && q y) xs) (both (p x) (q x) (and_left (p x) (all p xs) h) (and_left (q x) (all q xs) k))
    (all_both p q xs (and_right (p x) (all p xs) h) (and_right (q x) (all q xs) k))

-- ---- members

pub member-head : (x : ℕ) (l : List ℕ) → member x (x ∷ l) ≡ true
unfolding member any
member-head x l = or_left (eqb x x) (any (eqb x) l) (eq-eqb x x refl)

pub member-tail : (x y : ℕ) (l : List ℕ) → member x l ≡ true → member x (y ∷ l) ≡ true
unfolding member any
member-tail x y l h = or_right (eqb x y) (any (eqb x) l) h

pub member-cons : {P : Type 0} (x y : ℕ) (l : List ℕ) → member x (y ∷ l) ≡ true → (x ≡ y → P) → (member x l ≡ true → P) → P
unfolding member any
member-cons x y l h p q = or_cases (eqb x y) (any (eqb x) l) h (λ e. p (eqb-true x y e)) q

pub member-nil : {P : Type 0} (x : ℕ) → member x [] ≡ true → P
unfolding member any
member-nil x h = clash false h refl

-- no entry passes: not the first, not another
pub any_none : {A : Type 0} (p : A → Bool) (x : A) (xs : List A) → any p (x ∷ xs) ≡ false → (p x ≡ false) × (any p xs ≡ false)
unfolding any
any_none p x xs h = (or-neither-left (p x) (any p xs) h, or-neither-right (p x) (any p xs) h)

pub none-member : (p : ℕ → Bool) (l : List ℕ) (x : ℕ) → any p l ≡ false → member x l ≡ true → p x ≡ false
none-member p [] x h m = member-nil x m
none-member p (y ∷ ys) x h m = member-cons x y ys m (λ e. rw e (any_none p y ys h).0) (λ r. none-member p ys x (any_none p y ys h).1 r)

pub member-append : {P : Type 0} (x : ℕ) (xs ys : List ℕ) → member x (xs ++ ys) ≡ true → (member x xs ≡ true → P) → (member x ys ≡ true → P) → P
member-append x [] ys h p q = q h
member-append {P} x (z ∷ xs) ys h p q =
    member-cons x z (xs ++ ys) h (λ e. p (rw e (member-head z xs)))
    (λ e. member-append {P = P} x xs ys e (λ r. p (member-tail x z xs r)) q)

pub member-append-left : (x : ℕ) (xs ys : List ℕ) → member x xs ≡ true → member x (xs ++ ys) ≡ true
member-append-left x [] ys h = member-nil x h
member-append-left x (z ∷ xs) ys h =
    member-cons x z xs h (λ e. rw e (member-head z (xs ++ ys)))
    (λ r. member-tail x z (xs ++ ys) (member-append-left x xs ys r))

pub member-append-right : (x : ℕ) (xs ys : List ℕ) → member x ys ≡ true → member x (xs ++ ys) ≡ true
member-append-right x [] ys h = h
member-append-right x (z ∷ xs) ys h = member-tail x z (xs ++ ys) (member-append-right x xs ys h)

-- what all entries pass, a member passes; and the other way round
pub all-member : (p : ℕ → Bool) (l : List ℕ) (x : ℕ) → all p l ≡ true → member x l ≡ true → p x ≡ true
unfolding all
all-member p [] x h m = member-nil x m
all-member p (y ∷ ys) x h m = member-cons x y ys m (λ e. rw e (and_left (p y) (all p ys) h)) (λ r. all-member p ys x (and_right (p y) (all p ys) h) r)

pub all_from : (p : ℕ → Bool) (l : List ℕ) → ((x : ℕ) → member x l ≡ true → p x ≡ true) → all p l ≡ true
unfolding all
all_from p [] h = refl
all_from p (y ∷ ys) h = both (p y) (all p ys) (h y (member-head y ys)) (all_from p ys (λ x m. h x (member-tail x y ys m)))

-- an entry of a list, by its place
pub member-at : (l : List ℕ) (i d : ℕ) → i < length l → member (get_or l i d) l ≡ true
member-at [] i d h = absurd (omega arith)
member-at (x ∷ xs) zero d h = member-head x xs
member-at (x ∷ xs) (suc i) d h = member-tail (get_or xs i d) x xs (member-at xs i d (omega arith))

-- what all entries have, an entry has
pub all-at : (p : ℕ → Bool) (l : List ℕ) (i : ℕ) → all p l ≡ true → i < length l → p (get_or l i 0) ≡ true
all-at p l i h k = all-member p l (get_or l i 0) h (member-at l i 0 k)

-- what stands in the choice stands in the list and passes
pub member-only : (p : ℕ → Bool) (l : List ℕ) (x : ℕ) → member x (only p l) ≡ true → (member x l ≡ true) × (p x ≡ true)
unfolding only
member-only p [] x h = member-nil x h
member-only p (y ∷ ys) x h = by-test (p y)
    (λ e. member-cons x y (only p ys) (rw e at h) (λ r. (rw r (member-head y ys), rw r e))
    (λ r. let k = member-only p ys x r in (member-tail x y ys k.0, k.1)))
    (λ e. let k = member-only p ys x (rw e at h) in (member-tail x y ys k.0, k.1))

pub only-member : (p : ℕ → Bool) (l : List ℕ) (x : ℕ) → member x l ≡ true → p x ≡ true → member x (only p l) ≡ true
unfolding only
only-member p [] x h k = member-nil x h
only-member p (y ∷ ys) x h k = if-cases (λ r. member x r ≡ true) (p y)
    (λ e. member-cons x y ys h (λ r. rw r (member-head y (only p ys))) (λ r. member-tail x y (only p ys) (only-member p ys x r k)))
    (λ e. member-cons x y ys h (λ r. clash (p y) (rw r at k) e) (λ r. only-member p ys x r k))

-- ---- below

pub length-below : (n : ℕ) → length (below n) ≡ n
unfolding below
length-below zero = refl
length-below (suc n) = length-append (below n) (n ∷ []) ∙ rw (length-below n) (add-one n)

pub member_below : (n x : ℕ) → x < n → member x (below n) ≡ true
unfolding below
member_below zero x h = absurd (omega arith)
member_below (suc n) x h =
    elim
    (dec_eq x n) [
      | yes e ↦ rw e (member-append-right n (below n) (n ∷ []) (member-head n []))
      | no e ↦ member-append-left x (below n) (n ∷ []) (member_below n x (omega arith))
    ]

pub below-member : (n x : ℕ) → member x (below n) ≡ true → x < n
unfolding below
below-member zero x h = member-nil x h
below-member (suc n) x h =
    member-append x (below n) (n ∷ []) h (λ r. let k : x < n = below-member n x r in omega arith)
    (λ r. member-cons x n [] r (λ e. omega arith) (λ q. member-nil x q))

-- ---- all_below

pub all-below-at : (p : ℕ → Bool) (n i : ℕ) → all_below p n ≡ true → i < n → p i ≡ true
unfolding all_below
all-below-at p zero i h l = absurd (omega arith)
all-below-at p (suc n) i h l =
    elim
    (dec_eq i n) [
      | yes e ↦ rw e (and_right (all_below p n) (p n) h)
      | no e ↦ all-below-at p n i (and_left (all_below p n) (p n) h) (omega arith)
    ]

pub all-below-from : (p : ℕ → Bool) (n : ℕ) → ((i : ℕ) → i < n → p i ≡ true) → all_below p n ≡ true
unfolding all_below
all-below-from p zero h = refl
all-below-from p (suc n) h = both (all_below p n) (p n) (all-below-from p n (λ i l. h i (omega arith))) (h n (omega arith))

-- ---- distinct

pub distinct_cons : (x : ℕ) (l : List ℕ) → member x l ≡ false → distinct l ≡ true → distinct (x ∷ l) ≡ true
unfolding distinct
distinct_cons x l h k = rw h k

pub distinct_head : (x : ℕ) (l : List ℕ) → distinct (x ∷ l) ≡ true → member x l ≡ false
unfolding distinct
distinct_head x l h = not-true (member x l) (and_left (not (member x l)) (distinct l) h)

pub distinct_tail : (x : ℕ) (l : List ℕ) → distinct (x ∷ l) ≡ true → distinct l ≡ true
unfolding distinct
distinct_tail x l h = and_right (not (member x l)) (distinct l) h

pub not-member-append : (x : ℕ) (xs ys : List ℕ) → member x xs ≡ false → member x ys ≡ false → member x (xs ++ ys) ≡ false
not-member-append x xs ys h k =
    by-test (member x (xs ++ ys))
    (λ e. member-append x xs ys e (λ r. clash (member x xs) r h) (λ r. clash (member x ys) r k)) (λ e. e)

pub not-member-single : (x y : ℕ) → x ≢ y → member x (y ∷ []) ≡ false
unfolding member any
not-member-single x y h = rw (ne_eqb x y h)

-- one more at the end
pub distinct_snoc : (l : List ℕ) (x : ℕ) → distinct l ≡ true → member x l ≡ false → distinct (l ++ (x ∷ [])) ≡ true
distinct_snoc [] x h k = unfold distinct member any in refl
distinct_snoc (y ∷ ys) x h k =
    let apart : y ≢ x = λ e. clash (member x (y ∷ ys)) (rw (← e) (member-head y ys)) k in
    let out : member x ys ≡ false = by-test (member x ys) (λ e. clash (member x (y ∷ ys)) (member-tail x y ys e) k) (λ e. e) in
    distinct_cons y (ys ++ (x ∷ []))
    (not-member-append y ys (x ∷ []) (distinct_head y ys h) (not-member-single y x apart))
    (distinct_snoc ys x (distinct_tail y ys h) out)

pub distinct-only : (p : ℕ → Bool) (l : List ℕ) → distinct l ≡ true → distinct (only p l) ≡ true
unfolding only
distinct-only p [] h = h
distinct-only p (x ∷ xs) h =
    let ih : distinct (only p xs) ≡ true = distinct-only p xs (distinct_tail x xs h) in
    let out : member x (only p xs) ≡ false =
    by-test (member x (only p xs)) (λ e. clash (member x xs) (member-only p xs x e).0 (distinct_head x xs h))
    (λ e. e) in
    if-cases (λ l. distinct l ≡ true) (p x) (λ e. distinct_cons x (only p xs) out ih) (λ e. ih)

pub distinct-below : (n : ℕ) → distinct (below n) ≡ true
unfolding below
distinct-below zero = unfold distinct in refl
distinct-below (suc n) =
    distinct_snoc (below n) n (distinct-below n)
    (by-test (member n (below n)) (λ e. let k : n < n = below-member n n e in absurd (omega arith)) (λ e. e))

-- one entry out of the middle, or moved behind the front
pub distinct-middle : (xs : List ℕ) (y : ℕ) (ys : List ℕ) → distinct (xs ++ (y ∷ ys)) ≡ true → distinct (xs ++ ys) ≡ true
distinct-middle [] y ys h = distinct_tail y ys h
distinct-middle (x ∷ xs) y ys h =
    let out : member x (xs ++ ys) ≡ false =
    by-test (member x (xs ++ ys))
    (λ e. member-append x xs ys e
    (λ r. clash (member x (xs ++ (y ∷ ys))) (member-append-left x xs (y ∷ ys) r) (distinct_head x (xs ++ (y ∷ ys)) h))
    (λ r. clash (member x (xs ++ (y ∷ ys))) (member-append-right x xs (y ∷ ys) (member-tail x y ys r)) (distinct_head x (xs ++ (y ∷ ys)) h)))
    (λ e. e) in
    distinct_cons x (xs ++ ys) out (distinct-middle xs y ys (distinct_tail x (xs ++ (y ∷ ys)) h))

pub distinct-front : (xs ys : List ℕ) → distinct (xs ++ ys) ≡ true → distinct xs ≡ true
distinct-front xs [] h = rw (append-nil xs) at h
distinct-front xs (y ∷ ys) h = distinct-front xs ys (distinct-middle xs y ys h)

-- ---- a list of distinct numbers below m has at most m of them

other : ℕ → ℕ → Bool
other x y = not (eqb y x)

without-nothing : (x : ℕ) (l : List ℕ) → member x l ≡ false → only (other x) l ≡ l
unfolding only other
without-nothing x [] h = refl
without-nothing x (y ∷ ys) h =
    let apart : y ≢ x = λ e. clash (member x (y ∷ ys)) (rw (← e) (member-head y ys)) h in
    let out : member x ys ≡ false = by-test (member x ys) (λ e. clash (member x (y ∷ ys)) (member-tail x y ys e) h) (λ e. e) in
    rw (ne_eqb y x apart) (ap (λ r. y ∷ r) (without-nothing x ys out))

length_without : (x : ℕ) (l : List ℕ) → distinct l ≡ true → length l ≤ suc (length (only (other x) l))
unfolding only other
length_without x [] h = omega arith
length_without x (y ∷ ys) h =
    by-test (eqb y x)
    (λ e. let q : y ≡ x = eqb-true y x e in let w : only (other x) ys ≡ ys = without-nothing x ys (rw (← q) (distinct_head y ys h)) in rw (e, w) (omega arith))
    (λ e. let ih : length ys ≤ suc (length (only (other x) ys)) = length_without x ys (distinct_tail y ys h) in rw e (omega arith))

pub distinct-length : (m : ℕ) (l : List ℕ) → distinct l ≡ true → all (λ x. ltb x m) l ≡ true → length l ≤ m
unfolding other
distinct-length zero [] h k = omega arith
distinct-length zero (x ∷ xs) h k = let z : x < 0 = ltb-true x 0 (all-member (λ y. ltb y 0) (x ∷ xs) x k (member-head x xs)) in absurd (omega arith)
distinct-length (suc m) l h k =
    let smaller : all (λ x. ltb x m) (only (other m) l) ≡ true =
    all_from (λ x. ltb x m) (only (other m) l)
    (λ x e.
    let r = member-only (other m) l x e in
    let lt : x < suc m = ltb-true x (suc m) (all-member (λ y. ltb y (suc m)) l x k r.0) in
    let ne : x ≢ m = eqb-false x m (not-true (eqb x m) r.1) in
    lt-ltb x m (omega arith)) in
    let ih : length (only (other m) l) ≤ m = distinct-length m (only (other m) l) (distinct-only (other m) l h) smaller in
    omega (arith, length_without m l h)

-- ---- whether some entry passes a test, looked for from the first on

-- f holds of no entry before entry i of l
module _ (f : ℕ → Bool) (l : List ℕ) (i : ℕ) (e : any f (drop i l) ≡ any f l) where
  rest : i < length l → any f (drop i l) ≡ (f (get_or l i 0) || any f (drop (i + 1) l))
  unfolding any
  rest h = rw (add-one, drop-cons l i 0)

  pub any_here : i < length l → f (get_or l i 0) ≡ true → true ≡ any f l
  any_here h p = sym (rest h ∙ rw p) ∙ e

  pub any-on : i < length l → f (get_or l i 0) ≡ false → any f (drop (i + 1) l) ≡ any f l
  any-on h p = sym (rest h ∙ rw p) ∙ e

  pub any-end : length l ≤ i → false ≡ any f l
  unfolding any
  any-end h = rw (drop_of_length-le l h) at e
