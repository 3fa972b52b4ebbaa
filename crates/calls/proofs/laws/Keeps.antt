-- Laws of the tests that tell whether a call keeps a sound state sound: what each asks, case by case.
use Rattle.std.specs.Prelude.{◌≡◌, ℕ, zero, suc, ◌≤◌, Bool, true, false, ◌&&◌, ◌||◌, ◌≢◌, [], ◌∷◌, ℤ, pos, negsuc, ◌==◌, nat_lt, unsigned_abs}
use Rattle.std.proofs.Common.{arith, sym, ◌∙◌}
use Rattle.std.specs.Prelude.{refl}
use Rattle.std.proofs.Math.Path.{ap}
use Rattle.std.proofs.Math.Bool.{and-true}
use Rattle.std.specs.Int.Signed.{non_neg}
use borrow.Author.Tests.{eqb-true, eqb-false, eq-eqb, ne_eqb}
use Rattle.graph.specs.State.{State, grow_state_of, stay, up, down}
use Rattle.graph.specs.laws.Members.{by-test}
use Rattle.pass.specs.KeepsSound.{keeps_sound}
use Rattle.answers.specs.Outcome.{Answer}
use Rattle.answers.specs.Outcome.{Length}
use Rattle.answers.specs.declared.MaxUpdateLength.TheVariants.{NonZeroGrow, Unlimited}
use Rattle.answers.specs.Answer.{says}
use Rattle.answers.specs.laws.Answer.{free-cases, free_other}
use Rattle.calls.specs.Refuse.{node_refusal, store_short}
use Rattle.calls.specs.Each.{max_update_length, grow_dual_node, signed_for, toward, follow}
use Rattle.calls.specs.Keeps.{refused_or, prepare_keeps, length_keeps, toward_keeps, grow_keeps, follow_keeps, moves_keeps, advance_keeps}
use Rattle.calls.specs.inner.Reply.{along}
use Rattle.calls.proofs.laws.Advance.{along-toward}

-- ---- what is told, where it is asked for

module _ (ask : Bool) where
  -- a test that is passed
  pub asked-true : {x : Bool} → x ≡ true → ask ≡ (ask && x)
  asked-true e = rw e (sym (and-true ask))

  -- a test that asks the same as another
  pub asked-as : {s x y : Bool} → s ≡ (ask && y) → x ≡ y → s ≡ (ask && x)
  asked-as e f = rw f e

  -- two tests
  pub asked-both : {s t : Bool} (x y : Bool) → s ≡ (ask && x) → t ≡ (ask && y) → (s && t) ≡ (ask && (x && y))
  asked-both x y e f = rw (e, f) (by-test ask (λ a. rw a) (λ a. rw a))

-- ---- refused, or tested

module _ (k : ℕ) (t : Bool) where
  pub refused-passes : k ≢ 0 → refused_or k t ≡ true
  unfolding refused_or
  refused-passes h = rw (ne_eqb k 0 h)

  pub accepted-asks : k ≡ 0 → refused_or k t ≡ t
  unfolding refused_or
  accepted-asks h = rw (eq-eqb k 0 h)

  -- where the call is accepted the test is passed, and the other way round
  pub refused-or : refused_or k t ≡ true → k ≡ 0 → t ≡ true
  refused-or h e = sym (accepted-asks e) ∙ h

  pub refused-or-of : (k ≡ 0 → t ≡ true) → refused_or k t ≡ true
  refused-or-of f = by-test (k == 0) (λ e. accepted-asks (eqb-true k 0 e) ∙ f (eqb-true k 0 e)) (λ e. refused-passes (eqb-false k 0 e))

-- ---- a preparation, a length, a growth

module _ (c : State) (n d k : ℕ) (e : k ≡ node_refusal c n (nat_lt up d) (store_short c (n ∷ []) 1)) where
  pub prepare-refused-passes : k ≢ 0 → prepare_keeps c n d ≡ true
  unfolding prepare_keeps
  prepare-refused-passes h = rw (← e) (refused-passes k (d == up || keeps_sound c n) h)

  pub prepare-accepted-asks : k ≡ 0 → prepare_keeps c n d ≡ (d == up || keeps_sound c n)
  unfolding prepare_keeps
  prepare-accepted-asks h = rw (← e) (accepted-asks k (d == up || keeps_sound c n) h)

  pub length-refused-passes : k ≢ 0 → length_keeps c n d true ≡ true
  unfolding length_keeps
  length-refused-passes h = prepare-refused-passes h

  pub length-accepted-asks : k ≡ 0 → length_keeps c n d true ≡ (d == up || keeps_sound c n)
  unfolding length_keeps
  length-accepted-asks h = prepare-accepted-asks h

pub length-plain-passes : (c : State) (n d : ℕ) → length_keeps c n d false ≡ true
unfolding length_keeps
length-plain-passes c n d = refl

module _ (c : State) (n d k : ℕ) (e : k ≡ node_refusal c n false (store_short c (n ∷ []) 1)) where
  pub toward-refused-passes : k ≢ 0 → toward_keeps c n d ≡ true
  unfolding toward_keeps
  toward-refused-passes h = rw (← e) (refused-passes k (d == up || keeps_sound c n) h)

  pub toward-accepted-asks : k ≡ 0 → toward_keeps c n d ≡ (d == up || keeps_sound c n)
  unfolding toward_keeps
  toward-accepted-asks h = rw (← e) (accepted-asks k (d == up || keeps_sound c n) h)

-- a length is 0, above or below
pub along-none-passes : (c : State) (n d : ℕ) (z : ℤ) → unsigned_abs z ≡ 0 → grow_keeps c n (along d z) ≡ true
unfolding grow_keeps along
along-none-passes c n d (pos zero) h = by-test (d == up) (λ e. rw e) (λ e. rw e)
along-none-passes c n d (pos (suc l)) h = absurd (omega arith)
along-none-passes c n d (negsuc l) h = absurd (omega arith)

upward-passes : (c : State) (n : ℕ) → true ≡ toward_keeps c n up
unfolding toward_keeps refused_or
upward-passes c n = by-test (node_refusal c n false (store_short c (n ∷ []) 1) == 0) (λ e. rw e) (λ e. rw e)

pub along-forth-asks : (c : State) (n d : ℕ) (z : ℤ) → d ≤ 1 → unsigned_abs z ≢ 0 → non_neg z ≡ true → grow_keeps c n (along d z) ≡ toward_keeps c n d
unfolding grow_keeps along
along-forth-asks c n zero (pos (suc l)) k h s = refl
along-forth-asks c n (suc zero) (pos (suc l)) k h s = upward-passes c n
along-forth-asks c n (suc (suc d)) z k h s = absurd (omega arith)
along-forth-asks c n zero (pos zero) k h s = absurd (h refl)
along-forth-asks c n (suc zero) (pos zero) k h s = absurd (h refl)
along-forth-asks c n zero (negsuc l) k h s = cc
along-forth-asks c n (suc zero) (negsuc l) k h s = cc

pub along-back-asks : (c : State) (n : ℕ) (z : ℤ) → non_neg z ≡ false → grow_keeps c n (along up z) ≡ toward_keeps c n down
unfolding grow_keeps along
along-back-asks c n (pos l) s = cc
along-back-asks c n (negsuc l) s = refl

-- ---- advance

module _ (c : State) (n x : ℕ) where
  -- any other answer than a length is handed back
  pub moves-handed : {a : Answer} → a ≡ (max_update_length c n (toward x) true).answer
      → follow_keeps (max_update_length c n (toward x) true).state n x a ≡ true → moves_keeps c n x ≡ length_keeps c n (toward x) true
  unfolding moves_keeps
  moves-handed {a} f g =
      ap (λ y. length_keeps c n (toward x) true && y) (ap (follow_keeps (max_update_length c n (toward x) true).state n x) (sym f) ∙ g)
      ∙ and-true (length_keeps c n (toward x) true)

  -- a length is followed
  pub moves-followed : {l : ℤ} {o : Bool} {d : State} → Length (NonZeroGrow l o) ≡ (max_update_length c n (toward x) true).answer
      → d ≡ (max_update_length c n (toward x) true).state
      → moves_keeps c n x ≡ (length_keeps c n (toward x) true && grow_keeps d n (along (toward x) l))
  unfolding moves_keeps follow_keeps
  moves-followed {l} {o} {d} f g =
      ap (λ y. length_keeps c n (toward x) true && y)
      (ap (follow_keeps (max_update_length c n (toward x) true).state n x) (sym f)
      ∙ ap (λ (y : State). follow_keeps y n x (Length (NonZeroGrow l o))) (sym g) ∙ ap (grow_keeps d n) (sym (along-toward x l)))

module _ (c : State) (n k : ℕ) (e : k ≡ node_refusal c n false false) where
  pub advance-refused-passes : k ≢ 0 → advance_keeps c n ≡ true
  unfolding advance_keeps
  advance-refused-passes h = rw (← e) (refused-passes k (grow_state_of c n == stay || moves_keeps c n (grow_state_of c n)) h)

  module _ (h : k ≡ 0) (x : ℕ) (s : x ≡ grow_state_of c n) where
    pub advance-stay-passes : x ≡ 0 → advance_keeps c n ≡ true
    unfolding advance_keeps refused_or
    advance-stay-passes z = rw (← e, eq-eqb k 0 h, ← s, eq-eqb x stay z)

    pub advance-moves-asks : x ≢ 0 → advance_keeps c n ≡ moves_keeps c n x
    unfolding advance_keeps refused_or
    advance-moves-asks z = rw (← e, eq-eqb k 0 h, ← s, ne_eqb x stay z)

-- ---- what follows an answer

-- an answer gives a length, or advance hands it back and asks nothing
pub answer-cases : (P : Answer → Type 0) → ((l : ℤ) (e : Bool) → P (Length (NonZeroGrow l e)))
    → ((a : Answer) → ((c : State) (n x : ℕ) → (follow c n x a ≡ says a c) × (follow_keeps c n x a ≡ true)) → P a)
    → (a : Answer) → P a
unfolding follow follow_keeps
answer-cases P free rest =
    free-cases P free (λ e. rest (Length (Unlimited e)) (λ c n x. (refl, refl)))
    (λ a h. rest a
    (λ c n x. (
      free_other (says a c) (λ l e. grow_dual_node c n (signed_for x l)) (λ e. says a c) a h,
      free_other true (λ l e. grow_keeps c n (signed_for x l)) (λ e. true) a h,
    )))
