-- What answers say together is never a refusal.
use Rattle.std.specs.Prelude.{◌≡◌, Bool, false, List, ℤ}
use Rattle.std.specs.Prelude.{refl}
use Rattle.std.proofs.Common.{ap, ◌∙◌}
use Rattle.graph.specs.Basic.{all}
use Rattle.graph.specs.laws.State.{if-both, fold-keeps}
use Rattle.answers.specs.Outcome.{Answer}
use Rattle.answers.specs.laws.Answer.{free-cases, free_other}
use Rattle.calls.specs.Round.{Group, group_free, group_unlimited, group_conflicts, group_refused, is_free, join_length, join_unlimited, join_free, group_of, is_refused}

joined_length : (g : Group) (k : ℤ) (f : Bool) → is_refused g ≡ false → is_refused (join_length g k f) ≡ false
unfolding is_refused join_length
joined_length (group_free l e) k f p = refl
joined_length (group_unlimited e) k f p = refl
joined_length (group_conflicts a b) k f p = refl
joined_length (group_refused r) k f p = p

joined-unlimited : (g : Group) (f : Bool) → is_refused g ≡ false → is_refused (join_unlimited g f) ≡ false
unfolding is_refused join_unlimited
joined-unlimited (group_free l e) f p = refl
joined-unlimited (group_unlimited e) f p = refl
joined-unlimited (group_conflicts a b) f p = refl
joined-unlimited (group_refused r) f p = p

joined-answer : (g : Group) (a : Answer) → is_refused g ≡ false → is_refused (join_free g a) ≡ false
unfolding join_free
joined-answer g a p =
    free-cases (λ z. is_refused (join_free g z) ≡ false) (λ k f. joined_length g k f p) (λ f. joined-unlimited g f p)
    (λ z h. ap is_refused (free_other g (λ k f. join_length g k f) (λ f. join_unlimited g f) z h) ∙ p) a

none-refused : is_refused (group_unlimited false) ≡ false
unfolding is_refused
none-refused = refl

pub of-answered : (xs : List Answer) → is_refused (group_of xs) ≡ false
unfolding group_of is_refused
of-answered xs =
    if-both (λ (x : Group). is_refused x ≡ false) (all is_free xs)
    (fold-keeps join_free (λ (x : Group). is_refused x ≡ false) joined-answer (group_unlimited false) xs none-refused)
    refl
