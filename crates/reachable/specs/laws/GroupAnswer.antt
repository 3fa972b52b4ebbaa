-- The group is refused 9 only, never 13, and a length that it leaves is above 0.
use Rattle.std.specs.Prelude.{ℕ, ◌-◌, ◌≡◌, refl, ◌≢◌, Bool, true, false, List, [], ◌∷◌, ℤ, eqb}
use Rattle.std.proofs.Common.{sym, ap, subst, ◌∙◌, eqb-true}
use Rattle.std.proofs.lemmas.Bool.{eqb-false}
use Rattle.graph.specs.Basic.{all}
use Rattle.graph.specs.State.{State}
use Rattle.graph.specs.laws.State.{and_left, and_right, if-both, fold-keeps-on}
use Rattle.graph.specs.laws.Members.{by-test, clash, member-cons, member-nil}
use Rattle.answers.specs.Outcome.{Answer}
use Rattle.answers.specs.Outcome.{Length}
use Rattle.answers.specs.declared.MaxUpdateLength.TheVariants.{NonZeroGrow}
use Rattle.answers.specs.Answer.{accepted}
use Rattle.answers.specs.laws.Answer.{free-cases, free_other, accepted-refusal}
use Rattle.update_length.specs.laws.Long.{long_as}
use Rattle.calls.proofs.laws.Grouped.{of-answered}
use Rattle.calls.specs.Round.{refusal_of, prepared_all, first_refusal, is_free, join_length, join_unlimited, join_free, group_of, group_refusal, group_length, is_refused}
use Rattle.calls.specs.Group.{GroupMaxUpdateLength as Group}
use Rattle.calls.specs.Group.{NonZeroGrow as group_free, Unlimited as group_unlimited, Conflicts as group_conflicts, Refused as group_refused}
use Rattle.reachable.specs.Invariant.{Invariant}
use Rattle.reachable.specs.laws.Round.{Among, prepared-all-among}
use Rattle.reachable.specs.laws.Asked.{fine, lesser-fine, zero-nine, answers-fine}

fine-refusal : (a : Answer) → fine a ≡ true → refusal_of a ≡ 0
unfolding fine
fine-refusal a h = accepted-refusal a (and_left (accepted a) _ h)

first-none : (xs : List Answer) → all fine xs ≡ true → first_refusal xs ≡ 0
unfolding first_refusal all
first-none [] h = refl
first-none (a ∷ xs) h = rw (fine-refusal a (and_left (fine a) (all fine xs) h)) (first-none xs (and_right (fine a) (all fine xs) h))

-- 9 at most: never 13
pub group-among : (c : State) → Invariant c → Among (0 ∷ 9 ∷ []) (group_refusal (prepared_all c))
unfolding group_refusal
group-among c g =
    by-test (eqb (prepared_all c).refusal 0)
    (λ e. rw (e, first-none _ (answers-fine c g (eqb-true _ _ e))) zero-nine)
    (λ e. rw e (prepared-all-among c g).1)

-- a length that the group leaves is above 0
unfoldable group_fine : Group → Bool
group_fine (group_free l e) = long_as 1 l
group_fine (group_unlimited e) = true
group_fine (group_conflicts a b) = true
group_fine (group_refused k) = true

length-fine : (g : Group) (k : ℤ) (f : Bool) → group_fine g ≡ true → long_as 1 k ≡ true → group_fine (join_length g k f) ≡ true
unfolding group_fine join_length
length-fine (group_free l e) k f p q = lesser-fine l k p q
length-fine (group_unlimited e) k f p q = q
length-fine (group_conflicts a b) k f p q = refl
length-fine (group_refused r) k f p q = refl

unlimited-fine : (g : Group) (f : Bool) → group_fine g ≡ true → group_fine (join_unlimited g f) ≡ true
unfolding group_fine join_unlimited
unlimited-fine (group_free l e) f p = p
unlimited-fine (group_unlimited e) f p = refl
unlimited-fine (group_conflicts a b) f p = refl
unlimited-fine (group_refused r) f p = refl

free-joined : (g : Group) (a : Answer) → group_fine g ≡ true → fine a ≡ true → group_fine (join_free g a) ≡ true
unfolding join_free fine
free-joined g a p =
    free-cases (λ z. fine z ≡ true → group_fine (join_free g z) ≡ true)
    (λ k f q. length-fine g k f p (and_right (accepted (Length (NonZeroGrow k f))) _ q)) (λ f q. unlimited-fine g f p)
    (λ z h q. ap group_fine (free_other g (λ k f. join_length g k f) (λ f. join_unlimited g f) z h) ∙ p) a

group-of-fine : (xs : List Answer) → all fine xs ≡ true → group_fine (group_of xs) ≡ true
unfolding group_of group_fine
group-of-fine xs h =
    if-both (λ (x : Group). group_fine x ≡ true) (all is_free xs)
    (fold-keeps-on join_free fine (λ (x : Group). group_fine x ≡ true) (λ x a q p. free-joined x a p q) (group_unlimited false) xs h (unfold group_fine in refl))
    (unfold group_fine in refl)

group-fine : (c : State) → Invariant c → group_fine (group_length c).group ≡ true
unfolding group_length group_refusal
group-fine c g =
    by-test (eqb (prepared_all c).refusal 0)
    (λ e. rw (e, first-none _ (answers-fine c g (eqb-true _ _ e))) (group-of-fine _ (answers-fine c g (eqb-true _ _ e))))
    (λ e. rw (e, e) (unfold group_fine in refl))

fine-free : (z : ℤ) (e : Bool) → group_fine (group_free z e) ≡ true → long_as 1 z ≡ true
unfolding group_fine
fine-free z e h = h

pub group-positive : (c : State) → Invariant c → (z : ℤ) (e : Bool) → (group_length c).group ≡ group_free z e → long_as 1 z ≡ true
group-positive c g z e h = fine-free z e (subst (λ (x : Group). group_fine x ≡ true) h (group-fine c g))

-- ---- the numbers, as the answers give them

among-nine : (k : ℕ) → Among (0 ∷ 9 ∷ []) k → k ≢ 0 → k ≡ 9
among-nine k h ne = member-cons k 0 (9 ∷ []) h (λ e. absurd (ne e)) (λ i. member-cons k 9 [] i (λ e. e) (λ j. member-nil k j))

-- the number of a refused group; 9 for every other
unfoldable number_of : Group → ℕ
number_of (group_free l e) = 9
number_of (group_unlimited e) = 9
number_of (group_conflicts a b) = 9
number_of (group_refused k) = k

refused-is : (k : ℕ) → is_refused (group_refused k) ≡ true
unfolding is_refused
refused-is k = refl

same_number : (j k : ℕ) → group_refused j ≡ group_refused k → j ≡ k
unfolding number_of
same_number j k e = ap number_of e

pub group-refused-nine : (c : State) → Invariant c → (k : ℕ) → (group_length c).group ≡ group_refused k → k ≡ 9
unfolding group_length
group-refused-nine c g k h =
    by-test (eqb (group_refusal (prepared_all c)) 0)
    (λ e. clash (is_refused (group_refused k)) (refused-is k) (ap is_refused (sym (rw e at h)) ∙ of-answered _))
    (λ e. let q : group_refusal (prepared_all c) ≡ k = same_number _ k (rw e at h) in
    sym q ∙ among-nine (group_refusal (prepared_all c)) (group-among c g) (eqb-false _ _ e))
