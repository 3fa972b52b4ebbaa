-- What `all` over a range or a list answers, in the words of the contracts.
use Prim.Native.Nat.{ℕ, zero, suc, ◌+◌, ◌-◌}
use Rattle.std.proofs.Common.{arith, ap, sym, ◌∙◌}
use Rattle.std.proofs.Math.Path.{refl}
use Rattle.std.specs.Prelude.{◌≡◌, Bool, true, false, ◌&&◌, ◌||◌, map, List, [], ◌∷◌}
use Rattle.std.specs.List.{list_all, list_any, range_with_len, FoldsTo}
use Rattle.std.specs.Option.{MatchOption}
use Rattle.std.specs.Fn.{Called}
use Rattle.std.specs.Iterator.{YieldsThen}
use Rattle.std.proofs.iter.Yields.{fronts, nat_range_steps}
use Rattle.std.specs.Slice.Iter.{iter_rest}
use Rattle.std.proofs.lemmas.Iterator.{YieldsList-from_range, YieldsList-from_slice}
use Rattle.std.proofs.lemmas.Iterator.Search.{all_from_yields_List}
use Rattle.std.specs.declared.option.Option.{Option}
use denote.Param.Members.{Mut}
use denote.Ref.{Bor}
use Rattle.graph.specs.Basic.{all_below, all, any}
use Rattle.graph.specs.laws.Scan.{all-front, all_same}

pub range_all : (p : ℕ → Bool) (a n : ℕ) → list_all p (range_with_len a n) ≡ all_below (λ i. p (a + i)) n
unfolding all_below
range_all p a zero = refl
range_all p a (suc n) =
    let z : a + 0 ≡ a = omega arith in
    rw (all-front (λ i. p (a + i)) n, range_all p (a + 1) n, z)
    (ap (λ t. p a && t) (all_same (λ i. p ((a + 1) + i)) (λ i. p (a + suc i)) n
    (λ i h. let e : (a + 1) + i ≡ a + suc i = omega arith in ap p e)))

pub list-all : {A : Type 0} (p : A → Bool) (l : List A) → list_all p l ≡ all p l
unfolding all
list-all p [] = refl
list-all p (x ∷ l) = rw (list-all p l)

pub all_mapped : {A B : Type 0} (p : B → Bool) (f : A → B) (l : List A) → list_all (λ x. p (f x)) l ≡ all p (map f l)
unfolding all
all_mapped p f [] = refl
all_mapped p f (x ∷ xs) = ap (λ b. p (f x) && b) (all_mapped p f xs)

pub any_mapped : {A B : Type 0} (p : B → Bool) (f : A → B) (l : List A) → list_any (λ x. p (f x)) l ≡ any p (map f l)
unfolding any
any_mapped p f [] = refl
any_mapped p f (x ∷ xs) = ap (λ b. p (f x) || b) (any_mapped p f xs)

-- two tests that hold together
pub same_test : (a b : Bool) → (a ≡ true → b ≡ true) → (b ≡ true → a ≡ true) → a ≡ b
same_test true b f g = sym (f refl)
same_test false true f g = g refl
same_test false false f g = refl

-- `(0..n).all(f)`, where f answers p
pub all_of_range : {F : Type 0} {g : Mut F (ℕ × Unit {0}) Bool} (p : ℕ → Bool) (n : ℕ) (u : _) (f : F) (r : Bool)
    → (xs : List ℕ) × (o : Option ℕ) × (j : F) × YieldsThen nat_range_steps (record { start = 0; end = n }) xs o u × FoldsTo (λ p x q. Called g p (x, tt) true q) f xs j × MatchOption o (r ≡ true) (λ x. (r ≡ false) × ((h : F) × Called g j (x, tt) false h))
    → ((x : ℕ) (b : Bool) (q : F) → Called g f (x, tt) b q → (q ≡ f) × (b ≡ p x)) → r ≡ all_below p n
all_of_range p n u f r d k =
    let z : n - 0 ≡ n = omega arith in
    all_from_yields_List p u f r d (YieldsList-from_range 0 n n refl z) k
    ∙ range_all p 0 n
    ∙ all_same (λ i. p (0 + i)) p n (λ i h. let e : 0 + i ≡ i = omega arith in ap p e)

-- `l.iter().all(f)`, where f answers p
pub all_of_list : {A F : Type 0} {g : Mut F (Bor A × Unit {0}) Bool} (p : A → Bool) (l : List A) {s : _} (u : _) (f : F) (r : Bool)
    → (xs : List (Bor A)) × (o : Option (Bor A)) × (j : F) × YieldsThen fronts s xs o u × FoldsTo (λ p x q. Called g p (x, tt) true q) f xs j × MatchOption o (r ≡ true) (λ x. (r ≡ false) × ((h : F) × Called g j (x, tt) false h))
    → iter_rest s ≡ l → ((x : Bor A) (b : Bool) (q : F) → Called g f (x, tt) b q → (q ≡ f) × (b ≡ p x.now)) → r ≡ all p l
all_of_list p l u f r d e k = all_from_yields_List p u f r d (YieldsList-from_slice l e) k ∙ list-all p l
