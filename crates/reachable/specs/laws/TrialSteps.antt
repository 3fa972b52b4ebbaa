-- A trial, node by node.
use Rattle.std.specs.Prelude.{ℕ, ◌≡◌, refl, ◌≢◌, Bool, true, false, List, [], ◌∷◌}
use Rattle.std.proofs.Math.Decide.{ℕ_discrete as dec_eq}
use Rattle.std.proofs.Common.{sym, ap, ◌∙◌, ne_eqb}
use Rattle.std.proofs.Math.Path.{subst}
use Rattle.std.proofs.Math.Logic.{by_cases}
use Rattle.graph.specs.Basic.{fold, any, member}
use Rattle.graph.specs.State.{State}
use Rattle.graph.specs.laws.Members.{member-head, member-tail}
use Rattle.pass.specs.Prepare.{prepare_node}
use Rattle.growth.specs.Growth.{grow_check, grow_apply}
use Rattle.answers.specs.Answer.{Reply}
use Rattle.calls.specs.Refuse.{node_refusal, store_short}
use Rattle.calls.specs.Calls.{grow_prepared, grow_toward}
use Rattle.calls.specs.Round.{Tried, refusal_of, tried_by, try_step, try_all}
use Rattle.calls.proofs.laws.Trial.{unless-accepted, begun}
use Rattle.reachable.specs.laws.Round.{Among}

pub none_from : (p : ℕ → Bool) (l : List ℕ) → ((s : ℕ) → member s l ≡ true → p s ≡ false) → any p l ≡ false
unfolding any
none_from p [] g = refl
none_from p (s ∷ l) g = rw (g s (member-head s l)) (none_from p l (λ t i. g t (member-tail t s l i)))

-- a growth whose preparation changes nothing
pub toward-idle : (c : State) (n d l : ℕ) → (prepare_node c n d).state ≡ c → refusal_of (grow_toward c n d l).answer ≡ 0
    → (grow_toward c n d l).state ≡ grow_apply c n d l
unfolding grow_toward grow_prepared
toward-idle c n d l e h =
    let b : State = (prepare_node c n d).state in
    let u = unless-accepted (node_refusal c n false (store_short c (n ∷ []) 1)) c _ h in
    let v = unless-accepted (grow_check b n d l) b _ (ap (λ (r : Reply). refusal_of r.answer) (sym u.1) ∙ h) in
    ap (λ (r : Reply). r.state) (u.1 ∙ v.1) ∙ ap (λ (x : State). grow_apply x n d l) e

-- a trial that is refused goes no further
pub refused-stays : (f : State → ℕ → Reply) (t : Tried) (ns : List ℕ) → t.refusal ≢ 0 → try_all f t ns ≡ t
unfolding try_all fold try_step
refused-stays f t [] h = refl
refused-stays f t (n ∷ ns) h = rw (ne_eqb t.refusal 0 h) (unfold try_all try_step in (refused-stays f t ns h))

-- one node, and then the others
pub next-among : (ks : List ℕ) (f : State → ℕ → Reply) (c : State) (n : ℕ) (ns : List ℕ) (P : Tried → Type 0)
    → ((t : Tried) → t.refusal ≢ 0 → t.refusal ≡ refusal_of (f c n).answer → P t)
    → (refusal_of (f c n).answer ≡ 0 → P (try_all f (begun (f c n).state) ns))
    → P (try_all f (begun c) (n ∷ ns))
unfolding try_all fold try_step tried_by
next-among ks f c n ns P bad good =
    let t : Tried = record { refusal = refusal_of (f c n).answer; state = (f c n).state } in
    by_cases (dec_eq (refusal_of (f c n).answer) 0)
    (λ e. rw e (unfold try_all try_step tried_by in (good e)))
    (λ e. let k : try_all f t ns ≡ t = refused-stays f t ns e in subst P (sym (unfold try_all try_step tried_by in k)) (bad t e refl))

pub zero-met : Among (0 ∷ 9 ∷ 12 ∷ []) 0
unfolding member any
zero-met = refl

pub nine-met : Among (0 ∷ 9 ∷ 12 ∷ []) 9
unfolding member any
nine-met = refl

pub try-none : (f : State → ℕ → Reply) (t : Tried) → try_all f t [] ≡ t
unfolding try_all fold
try-none f t = refl

pub not_in : (k : ℕ) → member k [] ≡ false
unfolding member any
not_in k = refl
