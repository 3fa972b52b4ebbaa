-- The refusals that the calls for all clusters meet on a state with the invariant, as their answers give them.
use Rattle.std.specs.Prelude.{ℕ, zero, suc, ◌≡◌, ◌≢◌, Bool, true, false, List, [], ◌∷◌, ℤ, pos, negsuc, eqb, leb}
use Rattle.std.proofs.Common.{arith, sym, ap, ◌∙◌, le-leb}
use Rattle.std.proofs.Math.Path.{refl}
use Rattle.std.proofs.lemmas.Bool.{eqb-false}
use Rattle.graph.specs.State.{State}
use Rattle.graph.specs.laws.Members.{by-test, clash, member-cons, member-nil}
use Rattle.answers.specs.Outcome.{Done, Refused}
use Rattle.answers.specs.Answer.{says}
use Rattle.update_length.specs.laws.Long.{long_as}
use Rattle.calls.specs.Refuse.{unless}
use Rattle.calls.specs.Round.{Tried, refusal_of, tried, prepared_all, prepare_all, moved_all, round, group_length}
use Rattle.calls.specs.Group.{NonZeroGrow as group_free}
use Rattle.reachable.specs.Invariant.{Invariant}
use Rattle.answers.specs.Answer.{accepted}
use Rattle.reachable.specs.laws.Round.{Among, prepared-all-among, moved-all-among}
use Rattle.reachable.specs.laws.Group.{round-by-group, group_long}
use Rattle.reachable.specs.laws.GroupAnswer.{group-positive}

-- a trial that is answered with the refusal k
tried-refused : (c : State) (t : Tried) (k : ℕ) → (tried c t Done).answer ≡ Refused k → (t.refusal ≡ k) × (k ≢ 0)
unfolding tried unless says
tried-refused c t k h =
    by-test (eqb t.refusal 0)
    (λ e. clash (accepted (Refused k)) (ap accepted (sym (rw e at h)) ∙ done) no)
    (λ e. let q : t.refusal ≡ k = number t.refusal k (rw e at h) in (q, λ z. eqb-false _ _ e (q ∙ z)))
  where
    done : accepted Done ≡ true
    done = unfold accepted in refl

    no : accepted (Refused k) ≡ false
    no = unfold accepted in refl

    number : (i j : ℕ) → Refused i ≡ Refused j → i ≡ j
    number i j e = unfold refusal_of in (ap refusal_of e)

-- 0 leaves the numbers above it
above_zero : (ks : List ℕ) (k : ℕ) → Among (0 ∷ ks) k → k ≢ 0 → Among ks k
above_zero ks k h ne = member-cons k 0 ks h (λ e. absurd (ne e)) (λ i. i)

pub prepare-all-refused : (c : State) → Invariant c → (k : ℕ) → (prepare_all c).answer ≡ Refused k → k ≡ 9
unfolding prepare_all
prepare-all-refused c g k h =
    let r = tried-refused c (prepared_all c) k h in
    let i : Among (9 ∷ []) k = above_zero (9 ∷ []) k (rw (← r.0) (prepared-all-among c g).1) r.1 in
    member-cons k 9 [] i (λ e. e) (λ j. member-nil k j)

pub round-refused : (c : State) → Invariant c → (l k : ℕ) → (round c (pos (suc l))).answer ≡ Refused k → Among (9 ∷ 10 ∷ 11 ∷ 12 ∷ []) k
unfolding round
round-refused c g l k h =
    let r = tried-refused c (moved_all (suc l) c) k h in
    above_zero (9 ∷ 10 ∷ 11 ∷ 12 ∷ []) k (rw (← r.0) (moved-all-among c g (suc l))) r.1

-- by a length that the group leaves
part-refused : (c : State) → Invariant c → (l k : ℕ) → group_long (suc l) (group_length c).group ≡ true
    → (round (group_length c).state (pos (suc l))).answer ≡ Refused k → Among (9 ∷ 12 ∷ []) k
unfolding round
part-refused c g l k w h =
    let r = tried-refused (group_length c).state (moved_all (suc l) (group_length c).state) k h in
    above_zero (9 ∷ 12 ∷ []) k (rw (← r.0) (round-by-group c g (suc l) (omega arith) w)) r.1

long-group : (m x : ℕ) (e : Bool) → leb m x ≡ true → group_long m (group_free (pos x) e) ≡ true
unfolding group_long long_as
long-group m x e h = h

not-long : (z : ℤ) → long_as 1 z ≡ true → (l : ℕ) → z ≡ negsuc l → ⊥
unfolding long_as
not-long z h l e = clash true refl (sym (rw e at h))

pub by-group-refused : (c : State) → Invariant c → (z : ℤ) (e : Bool) → (group_length c).group ≡ group_free z e → (k : ℕ)
    → (round (group_length c).state z).answer ≡ Refused k → Among (9 ∷ 12 ∷ []) k
by-group-refused c g z e h k q = go z h (group-positive c g z e h) q
  where
    go : (z : ℤ) → (group_length c).group ≡ group_free z e → long_as 1 z ≡ true → (round (group_length c).state z).answer ≡ Refused k → Among (9 ∷ 12 ∷ []) k
    go (pos zero) i p r = clash true refl (sym (unfold long_as in p))
    go (pos (suc l)) i p r = part-refused c g l k (rw i (long-group (suc l) (suc l) e (le-leb (suc l) (suc l) (omega arith)))) r
    go (negsuc l) i p r = absurd (not-long (negsuc l) p l refl)
