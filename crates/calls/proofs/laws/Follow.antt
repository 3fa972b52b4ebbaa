-- What advance makes of a length answer: growth by its limit, or the answer handed back.
use Rattle.std.specs.Prelude.{◌≡◌, ℕ, Bool, false, ℤ}
use Rattle.std.proofs.Common.{sym, subst}
use Rattle.graph.specs.State.{State}
use Rattle.answers.specs.Outcome.{Answer}
use Rattle.answers.specs.Answer.{Reply, says, is_free}
use Rattle.answers.specs.laws.Answer.{free-cases, free_other}
use Rattle.calls.specs.Each.{grow_dual_node, signed_for, follow}

-- an answer that is not free is handed back
pub follow-other : (c : State) (n x : ℕ) (a : Answer) → is_free a ≡ false → follow c n x a ≡ says a c
unfolding follow
follow-other c n x a h = free_other (says a c) (λ l e. grow_dual_node c n (signed_for x l)) (λ e. says a c) a h

-- what holds of the growth by a limit and of an answer handed back holds of both
pub follow-cases : (P : Reply → Type 0) (c : State) (n x : ℕ) (a : Answer) → ((l : ℤ) (e : Bool) → P (grow_dual_node c n (signed_for x l)))
    → P (says a c) → P (follow c n x a)
unfolding follow
follow-cases P c n x a grown back =
    free-cases (λ z. P (says z c) → P (follow c n x z)) (λ l e p. grown l e) (λ e p. p)
    (λ z h p. subst P (sym (follow-other c n x z h)) p) a back
