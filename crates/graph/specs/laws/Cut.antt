-- Lists one after another in a store, and what becomes of them where one of them is replaced and the later ones are shifted.
use Prim.Native.Nat.{ℕ, zero, suc, ◌+◌, ◌≤◌, ◌<◌}
use native.Mathlib.Omega.{arith}
use Rattle.std.specs.Prelude.{◌≡◌, length, take, drop}
use Rattle.std.proofs.Math.Path.{refl}
use Rattle.std.proofs.Common.{sym, ap, ◌∙◌, length-drop, get_or-take, get_or-drop, ext_get_or, length-take-le}
use mathlib.Core.List.{List, [], ◌∷◌}
use Rattle.std.proofs.Math.ListN.{set, get_or}
use Rattle.std.proofs.Math.Seq.{drop-drop}
use Rattle.graph.specs.Layout.{stack_from, boundaries, stacks}
use Rattle.graph.specs.Form.{starts_from, total_from}
use Rattle.graph.specs.inner.Cut.{sum_of_lists, start_at, rest_at, Agree}

-- ---- sums

pub total-sum : (a : ℕ) (bs os : List ℕ) → total_from a bs os ≡ a + sum_of_lists bs os
unfolding total_from sum_of_lists
total-sum a [] os = omega arith
total-sum a (b ∷ bs) [] = omega arith
total-sum a (b ∷ bs) (o ∷ os) = total-sum (a + b + o) bs os ∙ omega arith

pub starts-at : (a : ℕ) (bs os : List ℕ) (n : ℕ) → n < length bs → n < length os → get_or (starts_from a bs os) n 0 ≡ a + start_at bs os n
unfolding starts_from start_at
starts-at a [] os n h k = absurd (omega arith)
starts-at a (b ∷ bs) [] n h k = absurd (omega arith)
starts-at a (b ∷ bs) (o ∷ os) zero h k = omega arith
starts-at a (b ∷ bs) (o ∷ os) (suc n) h k = starts-at (a + b + o) bs os n (omega arith) (omega arith) ∙ omega arith

pub starts-length : (a : ℕ) (bs os : List ℕ) → length bs ≡ length os → length (starts_from a bs os) ≡ length bs
unfolding starts_from
starts-length a [] os h = refl
starts-length a (b ∷ bs) [] h = omega arith
starts-length a (b ∷ bs) (o ∷ os) h = let ih : length (starts_from (a + b + o) bs os) ≡ length bs = starts-length (a + b + o) bs os (omega arith) in omega arith

pub parts-sum : (bs os : List ℕ) (n : ℕ) → n < length bs → n < length os → start_at bs os n + get_or bs n 0 + get_or os n 0 + rest_at bs os n ≡ sum_of_lists bs os
unfolding sum_of_lists start_at rest_at
parts-sum [] os n h k = absurd (omega arith)
parts-sum (b ∷ bs) [] n h k = absurd (omega arith)
parts-sum (b ∷ bs) (o ∷ os) zero h k = omega arith
parts-sum (b ∷ bs) (o ∷ os) (suc n) h k = let ih = parts-sum bs os n (omega arith) (omega arith) in omega arith

-- ---- with the lengths of list n changed

pub sum-set : (bs os : List ℕ) (n k o : ℕ) → n < length bs → n < length os
    → sum_of_lists (set bs n k) (set os n o) + (get_or bs n 0 + get_or os n 0) ≡ sum_of_lists bs os + (k + o)
unfolding sum_of_lists
sum-set [] os n k o h j = absurd (omega arith)
sum-set (b ∷ bs) [] n k o h j = absurd (omega arith)
sum-set (b ∷ bs) (c ∷ os) zero k o h j = omega arith
sum-set (b ∷ bs) (c ∷ os) (suc n) k o h j = let ih = sum-set bs os n k o (omega arith) (omega arith) in omega arith

pub start-set-le : (bs os : List ℕ) (n k o x : ℕ) → x ≤ n → start_at (set bs n k) (set os n o) x ≡ start_at bs os x
unfolding start_at
start-set-le [] os n k o x h = refl
start-set-le (b ∷ bs) [] zero k o x h = refl
start-set-le (b ∷ bs) [] (suc n) k o x h = refl
start-set-le (b ∷ bs) (c ∷ os) zero k o zero h = refl
start-set-le (b ∷ bs) (c ∷ os) zero k o (suc x) h = absurd (omega arith)
start-set-le (b ∷ bs) (c ∷ os) (suc n) k o zero h = refl
start-set-le (b ∷ bs) (c ∷ os) (suc n) k o (suc x) h = let ih = start-set-le bs os n k o x (omega arith) in omega arith

pub start-set-gt : (bs os : List ℕ) (n k o x : ℕ) → n < x → x < length bs → x < length os
    → start_at (set bs n k) (set os n o) x + (get_or bs n 0 + get_or os n 0) ≡ start_at bs os x + (k + o)
unfolding start_at
start-set-gt [] os n k o x h i j = absurd (omega arith)
start-set-gt (b ∷ bs) [] n k o x h i j = absurd (omega arith)
start-set-gt (b ∷ bs) (c ∷ os) n k o zero h i j = absurd (omega arith)
start-set-gt (b ∷ bs) (c ∷ os) zero k o (suc x) h i j = omega arith
start-set-gt (b ∷ bs) (c ∷ os) (suc n) k o (suc x) h i j = let ih = start-set-gt bs os n k o x (omega arith) (omega arith) (omega arith) in omega arith

-- a later list starts behind
pub start-behind : (bs os : List ℕ) (n x : ℕ) → n < x → x < length bs → x < length os → start_at bs os n + get_or bs n 0 + get_or os n 0 ≤ start_at bs os x
unfolding start_at
start-behind [] os n x h i j = absurd (omega arith)
start-behind (b ∷ bs) [] n x h i j = absurd (omega arith)
start-behind (b ∷ bs) (c ∷ os) n zero h i j = absurd (omega arith)
start-behind (b ∷ bs) (c ∷ os) zero (suc x) h i j = omega arith
start-behind (b ∷ bs) (c ∷ os) (suc n) (suc x) h i j = let ih = start-behind bs os n x (omega arith) (omega arith) (omega arith) in omega arith

-- ---- a store cut into lists

agree-drop : (m n : ℕ) (x y : List ℕ) → Agree (m + n) x y → Agree n (drop m x) (drop m y)
agree-drop m n x y h p k = get_or-drop m x p 0 ∙ h (m + p) (omega arith) ∙ sym (get_or-drop m y p 0)

pub agree-take : (n : ℕ) (x y : List ℕ) → n ≤ length x → n ≤ length y → Agree n x y → take n x ≡ take n y
agree-take n x y hx hy h =
    let lx : length (take n x) ≡ n = length-take-le n x hx in
    let ly : length (take n y) ≡ n = length-take-le n y hy in
    ext_get_or 0 (take n x) (take n y) (lx ∙ sym ly) (λ i k. get_or-take n x i 0 (omega arith) ∙ h i (omega arith) ∙ sym (get_or-take n y i 0 (omega arith)))

module _ {A : Type 0} (f : ℕ → ℕ → List ℕ → A) where
  -- of each list its part f
  unfoldable pub cut : List ℕ → List ℕ → List ℕ → List A
  cut [] os l = []
  cut (b ∷ bs) [] l = []
  cut (b ∷ bs) (o ∷ os) l = f b o l ∷ cut bs os (drop (b + o) l)

  -- f looks at the list alone
  abbrev pub Local : Type 0
  Local = (b o : ℕ) (x y : List ℕ) → b + o ≤ length x → b + o ≤ length y → Agree (b + o) x y → f b o x ≡ f b o y

  module _ (loc : Local) where
    cut-same : (bs os x y : List ℕ) → sum_of_lists bs os ≤ length x → sum_of_lists bs os ≤ length y → Agree (sum_of_lists bs os) x y → cut bs os x ≡ cut bs os y
    unfolding cut sum_of_lists
    cut-same [] os x y hx hy h = refl
    cut-same (b ∷ bs) [] x y hx hy h = refl
    cut-same (b ∷ bs) (o ∷ os) x y hx hy h =
        let p : f b o x ≡ f b o y = loc b o x y (omega arith) (omega arith) (λ p k. h p (omega arith)) in
        let q : cut bs os (drop (b + o) x) ≡ cut bs os (drop (b + o) y) =
        cut-same bs os (drop (b + o) x) (drop (b + o) y) (rw (length-drop (b + o) x) (omega arith))
        (rw (length-drop (b + o) y) (omega arith)) (agree-drop (b + o) (sum_of_lists bs os) x y h) in
        cc

    pub cut-replaced : (bs os : List ℕ) (n k c : ℕ) (l l' new : List ℕ)
        → n < length bs → n < length os
        → Agree (start_at bs os n) l' l
        → Agree (k + c) (drop (start_at bs os n) l') new
        → Agree (rest_at bs os n) (drop (start_at bs os n + (k + c)) l') (drop (start_at bs os n + (get_or bs n 0 + get_or os n 0)) l)
        → sum_of_lists bs os ≤ length l → sum_of_lists (set bs n k) (set os n c) ≤ length l' → k + c ≤ length new
        → cut (set bs n k) (set os n c) l' ≡ set (cut bs os l) n (f k c new)
    unfolding cut sum_of_lists start_at rest_at
    cut-replaced [] os n k c l l' new hb ho before inner after hl hl' hn = absurd (omega arith)
    cut-replaced (b ∷ bs) [] n k c l l' new hb ho before inner after hl hl' hn = absurd (omega arith)
    cut-replaced (b ∷ bs) (o ∷ os) zero k c l l' new hb ho before inner after hl hl' hn =
        let z₁ : 0 + (k + c) ≡ k + c = omega arith in
        let z₂ : 0 + (b + o) ≡ b + o = omega arith in
        let p : f k c l' ≡ f k c new = loc k c l' new (omega arith) hn inner in
        let q : cut bs os (drop (k + c) l') ≡ cut bs os (drop (b + o) l) =
        cut-same bs os (drop (k + c) l') (drop (b + o) l) (rw (length-drop (k + c) l') (omega arith))
        (rw (length-drop (b + o) l) (omega arith)) (rw (z₁, z₂) at after) in
        cc
    cut-replaced (b ∷ bs) (o ∷ os) (suc n) k c l l' new hb ho before inner after hl hl' hn =
        let a : ℕ = start_at bs os n in
        let z₁ : b + o + a + (k + c) ≡ b + o + (a + (k + c)) = omega arith in
        let z₂ : b + o + a + (get_or bs n 0 + get_or os n 0) ≡ b + o + (a + (get_or bs n 0 + get_or os n 0)) = omega arith in
        let e₁ = drop-drop a (b + o) l' in
        let e₂ = drop-drop (a + (k + c)) (b + o) l' in
        let e₃ = drop-drop (a + (get_or bs n 0 + get_or os n 0)) (b + o) l in
        let p : f b o l' ≡ f b o l = loc b o l' l (omega arith) (omega arith) (λ p h. before p (omega arith)) in
        let q : cut (set bs n k) (set os n c) (drop (b + o) l') ≡ set (cut bs os (drop (b + o) l)) n (f k c new) =
        cut-replaced bs os n k c (drop (b + o) l) (drop (b + o) l') new (omega arith) (omega arith)
        (agree-drop (b + o) a l' l before)
        (rw e₁ inner)
        (rw (e₂, e₃, ← z₁, ← z₂) after)
        (rw (length-drop (b + o) l) (omega arith)) (rw (length-drop (b + o) l') (omega arith)) hn in
        cc

-- ---- boundaries and stacks

pub boundaries-cut : (bs os l : List ℕ) → boundaries bs os l ≡ cut (λ b o l. take b l) bs os l
unfolding boundaries cut
boundaries-cut [] os l = refl
boundaries-cut (b ∷ bs) [] l = refl
boundaries-cut (b ∷ bs) (o ∷ os) l = ap (λ r. take b l ∷ r) (boundaries-cut bs os (drop (b + o) l))

pub stacks-cut : (bs os l : List ℕ) → stacks bs os l ≡ cut (λ b o l. stack_from (take o (drop b l))) bs os l
unfolding stacks cut
stacks-cut [] os l = refl
stacks-cut (b ∷ bs) [] l = refl
stacks-cut (b ∷ bs) (o ∷ os) l = ap (λ r. stack_from (take o (drop b l)) ∷ r) (stacks-cut bs os (drop (b + o) l))

pub boundary-local : Local (λ b o l. take b l)
boundary-local b o x y hx hy h = agree-take b x y (omega arith) (omega arith) (λ p k. h p (omega arith))

pub stack-local : Local (λ b o l. stack_from (take o (drop b l)))
stack-local b o x y hx hy h =
    ap stack_from
    (agree-take o (drop b x) (drop b y) (rw (length-drop b x) (omega arith)) (rw (length-drop b y) (omega arith))
    (agree-drop b o x y h))
