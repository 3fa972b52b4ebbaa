-- What a trial over all clusters is, where what is lent is refused for its length alone.
use Rattle.std.specs.Prelude.{ℕ, zero, suc, ◌≡◌, ◌≢◌, Bool, List, ℤ, pos, negsuc, length, if◌then◌else◌}
use Rattle.std.proofs.Common.{arith, sym, ◌∙◌, ne_eqb}
use Rattle.std.proofs.Math.Path.{refl, ap, subst}
use Rattle.std.proofs.Math.Bool.{true, false}
use Rattle.graph.specs.State.{State}
use Rattle.graph.specs.Layout.{state_of}
use Rattle.graph.specs.Form.{Formed}
use Rattle.graph.specs.laws.Members.{by-test, clash}
use Rattle.answers.specs.Theorems.{same_answer}
use Rattle.answers.specs.Outcome.{Answer}
use Rattle.answers.specs.Outcome.{Refused}
use Rattle.answers.specs.Answer.{Reply, says}
use Rattle.calls.specs.Group.{GroupMaxUpdateLength as Group}
use Rattle.calls.specs.Group.{Refused as group_refused}
use Rattle.calls.specs.Refuse.{unless}
use Rattle.calls.specs.Round.{refusal_of, round, is_refused, GroupReply}
use Rattle.round_list.specs.Asked.{listed_from}
use Rattle.dual_module_round.specs.Called.{trial_refusal, below_one, round_refusal, OnTrial, GroupOnTrial}
use Rattle.table_claim.specs.Run.{or_refused}

-- the block is in form and holds the state of the reply, or all of it is as it was
pub record Ends (b b' : List ℤ) (fits : Bool) (a : Answer) (r : Reply) : Type 0 where
  pub answer : a ≡ or_refused fits r.answer
  pub formed : fits ≡ true → Formed b'
  pub state : fits ≡ true → state_of b' ≡ r.state
  pub unchanged : fits ≡ false → b' ≡ b
  pub len : length b' ≡ length b

module _ {b s t b' s' t' : List ℤ} {a : Answer} {r : Reply} where
  refused-by : (j : ℕ) → j ≢ 0 → OnTrial j b s t b' s' t' a r → (a ≡ Refused j) × (b' ≡ b)
  unfolding unless says refusal_of
  refused-by j h p =
      let e : a ≡ Refused j = same_answer p.answer ∙ rw (ne_eqb j 0 h) refl in
      (e, p.unchanged (λ q. h (sym (ap refusal_of e) ∙ q)))

  pub trial-ends : {j : ℕ} (fits : Bool) → j ≡ (if fits then 0 else 1) → OnTrial j b s t b' s' t' a r → Ends b b' fits a r
  unfolding unless
  trial-ends true m p = record {
    answer = rw m at (same_answer p.answer);
    formed = λ e. p.formed m;
    state = λ e. rw m at p.state;
    unchanged = λ e. clash true refl e;
    len = p.len;
  }
  trial-ends false m p =
      let q = refused-by 1 (λ z. omega (arith, z)) (rw m at p) in
      record { answer = q.0; formed = λ e. clash false e refl; state = λ e. clash false e refl; unchanged = λ e. q.1; len = p.len }

below-refused : (l : ℤ) (c : State) → below_one l ≡ true → round c l ≡ says (Refused 14) c
unfolding below_one round
below-refused (pos zero) c h = refl
below-refused (pos (suc l)) c h = clash false h refl
below-refused (negsuc l) c h = refl

module _ {b s t b' s' t' : List ℤ} {a : Answer} (l : ℤ) where
  -- a round of a length below 1 is refused 14 as the definition says
  pub round-ends : (fits : Bool) → Formed b → trial_refusal b s t ≡ (if fits then 0 else 1)
      → OnTrial (round_refusal b s t l) b s t b' s' t' a (round (state_of b) l) → Ends b b' fits a (round (state_of b) l)
  unfolding says
  round-ends false f m p = let k : round_refusal b s t l ≡ 1 = unfold round_refusal in (rw m refl) in trial-ends false k p
  round-ends true f m p =
      by-test (below_one l)
      (λ e.
      let k : round_refusal b s t l ≡ 14 = unfold round_refusal in (rw (m, e) refl) in
      let q = refused-by 14 (λ z. omega (arith, z)) (rw k at p) in
      let r : round (state_of b) l ≡ says (Refused 14) (state_of b) = below-refused l (state_of b) e in
      rw r (record { answer = q.0; formed = λ x. subst Formed (sym q.1) f; state = λ x. ap state_of q.1; unchanged = λ x. q.1; len = p.len }))
      (λ e. let k : round_refusal b s t l ≡ 0 = unfold round_refusal in (rw (m, e) refl) in trial-ends true k p)

-- the group's answer and entries
module _ {b s t b' s' t' : List ℤ} {entries entries' : List ℕ} {g : Group} {r : GroupReply} where
  pub group-answers : {j : ℕ} (fits : Bool) → j ≡ (if fits then 0 else 1) → GroupOnTrial j b s t entries b' s' t' entries' g r
      → (g ≡ (if fits then r.group else group_refused 1)) × (entries' ≡ (if fits then listed_from 0 r.listed entries else entries))
  group-answers true m p = (rw m at p.answer, rw m at p.listed)
  group-answers false m p = (rw m at p.answer, rw m at p.listed)

  pub group-kept : {j : ℕ} → j ≡ 1 → GroupOnTrial j b s t entries b' s' t' entries' g r → b' ≡ b
  unfolding is_refused
  group-kept m p = p.unchanged (ap is_refused (rw m at p.answer))
