-- A trial on a second block: what is copied, what is answered, and what refuses it before it starts.
use Rattle.std.specs.Prelude.{ℕ, zero, suc, ◌*◌, ◌<◌, ◌≢◌, Bool, ◌&&◌, not, List, [], ℤ, pos, negsuc, nat_abs, if◌then◌else◌}
use Rattle.std.proofs.Common.{arith, sym, ◌∙◌}
use Rattle.std.proofs.Math.Path.{◌≡◌, refl, ap}
use Rattle.std.proofs.Math.Bool.{true, false}
use Rattle.std.specs.Int.Signed.{lt_z}
use Rattle.std.proofs.Math.Dec.{eqb}
use Rattle.std.proofs.Math.ListN.{length}
use Rattle.std.proofs.lemmas.List.{length-replicate}
use borrow.Author.Tests.{eq-eqb, ne_eqb, eqb-true, eqb-false, ltb-true}
use Rattle.graph.specs.State.{State}
use Rattle.graph.specs.Sound.{sound}
use Rattle.graph.specs.Active.{renewed}
use Rattle.graph.specs.Layout.{v_of, e_of, n_of, scratch_length, state_of, sized, memory_fits, block_sound, block_refusal, memory_refusal}
use Rattle.graph.specs.Form.{Formed, Laid}
use Rattle.graph.specs.inner.Form.{Becomes}
use Rattle.graph.specs.laws.Members.{by-test, clash}
use Rattle.graph.specs.laws.State.{and_right}
use Rattle.memory_tests.specs.laws.Memory.{Lendable, memory-accepted}
use Rattle.pass.specs.Scratch.{zero_scratch}
use Rattle.answers.specs.Numbers.{answer_numbers}
use Rattle.answers.specs.Outcome.{Answer}
use Rattle.answers.specs.Outcome.{Done, Refused}
use Rattle.answers.specs.Answer.{Reply, says}
use Rattle.std.specs.Prelude.{Result, Ok, Err, is_err}
use Rattle.refusal.specs.declared.Refusal.{Refusal}
use Rattle.refusal.specs.Refusal.{number, refusal_number, number-some}
use Rattle.calls.specs.declared.group.GroupMaxUpdateLength.{GroupMaxUpdateLength as Found}
use Rattle.calls.specs.declared.group.GroupMaxUpdateLength.TheVariants as Finds
use Rattle.calls.specs.Group.{group_told}
use Rattle.calls.specs.Group.{GroupMaxUpdateLength as Group}
use Rattle.calls.specs.Group.{Refused as GroupRefused}
use Rattle.calls.specs.Refuse.{unless}
use Rattle.calls.specs.inner.Reply.{Replies, Usable}
use Rattle.calls.specs.Round.{refusal_of, tried, prepared_all, prepare_all, round, renew_active_list, GroupReply, answers_of, group_of, is_refused, group_refusal, group_length}
use Rattle.calls.proofs.laws.Grouped.{of-answered}
use Rattle.round_trial.specs.Trial.{whole_trial}
use Rattle.round_trial.specs.inner.Step.{TriedTo}
use Rattle.round_list.specs.Asked.{listed_from}
use Rattle.round.specs.inner.Group.{GroupTried}
use Rattle.round_trial.specs.laws.InTurn.{turned_none, turned-some}
use Rattle.round_list.specs.laws.Listing.{listed-none}
use Rattle.dual_module.proofs.laws.Called.{lendable-usable}
use Rattle.dual_module_round.specs.Called.{trial_refusal, group_trial_refusal, below_one, round_refusal, OnTrial, trial_reply, trial_answer, GroupOnTrial}

-- ---- what is handed back

-- a test refuses where its number is not 0
pub refuses : {A : Type 0} → (r : Result A Refusal) → is_err r ≡ not (eqb (refusal_number r) 0)
refuses (Ok a) = refl
refuses (Err e) = rw (ne_eqb (number e) 0 (number-some e)) refl

pub refusal-told : (e : Refusal) → Refused (number e) ≡ trial_answer (number e)
unfolding trial_answer
refusal-told e = rw (ne_eqb (number e) 0 (number-some e)) refl

-- and the group where its answer is a refusal
pub group-refuses : (r : Result Found Refusal) → is_err r ≡ is_refused (group_told r)
unfolding is_refused
group-refuses (Ok (Finds.NonZeroGrow l e)) = refl
group-refuses (Ok (Finds.Unlimited e)) = refl
group-refuses (Ok (Finds.Conflicts k j)) = refl
group-refuses (Err e) = refl

-- ---- what refuses a trial

module _ (b s t : List ℤ) where
  pub trial-tested : length s ≡ length b → memory_refusal b t ≡ trial_refusal b s t
  unfolding trial_refusal memory_refusal
  trial-tested e = rw (eq-eqb (length s) (length b) e) (go (memory_fits b t))
    where
      go : (f : Bool) → block_refusal f b ≡ block_refusal (f && true) b
      go true = refl
      go false = refl

  pub trial-unlike : length s ≢ length b → 1 ≡ trial_refusal b s t
  unfolding trial_refusal block_refusal
  trial-unlike e = rw (ne_eqb (length s) (length b) e) (go (memory_fits b t))
    where
      go : (f : Bool) → 1 ≡ block_refusal (f && false) b
      go true = unfold block_refusal in refl
      go false = unfold block_refusal in refl

  -- a trial that is not refused has a block, a scratch and a second block
  pub trial-lent : trial_refusal b s t ≡ 0 → Lendable b t × (length s ≡ length b)
  trial-lent h =
      by-test (eqb (length s) (length b))
      (λ e. let q : length s ≡ length b = eqb-true _ _ e in (memory-accepted b t (trial-tested q ∙ h), q))
      (λ e. absurd (let z : ◌≡◌ {A = ℕ} 1 0 = trial-unlike (eqb-false _ _ e) ∙ h in omega arith))

  module _ (l : ℤ) where
    pub round-passed : {k : ℕ} → k ≡ trial_refusal b s t → k ≡ 0 → (if below_one l then 14 else 0) ≡ round_refusal b s t l
    unfolding round_refusal
    round-passed e h = rw (← e, h) refl

    pub round-first : {k : ℕ} → k ≡ trial_refusal b s t → k ≢ 0 → k ≡ round_refusal b s t l
    unfolding round_refusal
    round-first {k} e h = rw (← e, ne_eqb k 0 h) refl

    -- a round that is not refused is a trial by 1 at least
    pub round-lent : round_refusal b s t l ≡ 0 → (trial_refusal b s t ≡ 0) × (below_one l ≡ false)
    unfolding round_refusal
    round-lent h =
        by-test (eqb (trial_refusal b s t) 0)
        (λ e. (eqb-true _ 0 e, by-test (below_one l) (λ w. absurd (let z : ◌≡◌ {A = ℕ} 14 0 = rw (e, w) at h in omega arith)) (λ w. w)))
        (λ e. absurd (eqb-false _ 0 e (rw e at h)))

  module _ (m : ℕ) where
    pub group-tested : sized b && eqb m (5 * n_of b) ≡ true → trial_refusal b s t ≡ group_trial_refusal b s t m
    unfolding trial_refusal group_trial_refusal
    group-tested h = rw (and_right (sized b) (eqb m (5 * n_of b)) h) (go (memory_fits b t && eqb (length s) (length b)))
      where
        go : (f : Bool) → block_refusal f b ≡ block_refusal (f && true) b
        go true = refl
        go false = refl

    pub group-unlike : sized b && eqb m (5 * n_of b) ≡ false → 1 ≡ group_trial_refusal b s t m
    unfolding group_trial_refusal memory_fits block_refusal
    group-unlike h = go (sized b) (eqb m (5 * n_of b)) _ _ h
      where
        go : (x y u v : Bool) → x && y ≡ false → ◌≡◌ {A = ℕ} 1 (if ((x && u) && v) && y then (if block_sound b then 0 else 2) else 1)
        go true true u v h = clash true refl h
        go true false true true h = refl
        go true false true false h = refl
        go true false false v h = refl
        go false y u v h = refl

-- ---- the trial

-- the second block after the copy, and the cleared scratch, can be worked on
pub second-usable : (b s t s₁ t₁ : List ℤ) → trial_refusal b s t ≡ 0 → s₁ ≡ b → t₁ ≡ zero_scratch (length t) → Usable s₁ t₁
second-usable b s t s₁ t₁ h e z = rw (e, z) (lendable-usable (trial-lent b s t h).0)

module _
    (b s t s₁ s₂ b' s' t' : List ℤ)
    (l r : ℕ)
    (h : trial_refusal b s t ≡ 0)
    (e : s₁ ≡ b)
    (p : TriedTo s₁ s₂ r (whole_trial l (state_of s₁)))
    (z : t' ≡ zero_scratch (length t))
    (back : b' ≡ (if not (eqb r 0) then b else s₂))
    (same : s' ≡ b')
  where
    from_block : TriedTo b s₂ r (whole_trial l (state_of b))
    from_block = rw e at p

    reply-refused : r ≢ 0 → trial_reply l (state_of b) ≡ says (Refused r) (state_of b)
    unfolding trial_reply tried unless
    reply-refused q = rw (← from_block.refusal, ne_eqb r 0 q) refl

    reply-done : r ≡ 0 → trial_reply l (state_of b) ≡ record { answer = Done; state = (whole_trial l (state_of b)).state }
    unfolding trial_reply tried unless
    reply-done q = rw (← from_block.refusal, q) refl

    pub on-trial : OnTrial 0 b s t b' s' t' (trial_answer r) (trial_reply l (state_of b))
    on-trial = by-test (eqb r 0) yes no
      where
        yes : eqb r 0 ≡ true → OnTrial 0 b s t b' s' t' (trial_answer r) (trial_reply l (state_of b))
        yes q =
            let k : b' ≡ s₂ = rw q at back in
            let a : trial_answer r ≡ Done = unfold trial_answer in (rw q refl) in
            rw (reply-done (eqb-true r 0 q)) (record {
              answer = ap answer_numbers (a ∙ unfold unless in refl);
              state = ap state_of k ∙ from_block.block.state ∙ unfold unless in refl;
              formed = λ w. rw k from_block.block.formed;
              unchanged = λ w. absurd (w (ap refusal_of a ∙ unfold refusal_of in refl));
              second = same;
              scratch = z;
              len = ap length k ∙ from_block.block.len;
            })

        no : eqb r 0 ≡ false → OnTrial 0 b s t b' s' t' (trial_answer r) (trial_reply l (state_of b))
        no q =
            let k : b' ≡ b = rw q at back in
            let a : trial_answer r ≡ Refused r = unfold trial_answer in (rw q refl) in
            rw (reply-refused (eqb-false r 0 q)) (record {
              answer = ap answer_numbers (a ∙ unfold unless says in refl);
              state = ap state_of k ∙ unfold unless says in refl;
              formed = λ w. rw k (trial-lent b s t h).0.formed;
              unchanged = λ w. k;
              second = same;
              scratch = z;
              len = ap length k;
            })

-- ---- from the trial to the calls

-- refused before the trial
pub trial-refused : (b s t : List ℤ) (j k : ℕ) (r : Reply) → j ≡ k → j ≢ 0 → OnTrial k b s t b s t (Refused j) r
unfolding unless says
trial-refused b s t j k r e h = record {
  answer = rw (← e, ne_eqb j 0 h) refl;
  state = rw (← e, ne_eqb j 0 h) refl;
  formed = λ w. absurd (h (e ∙ w));
  unchanged = λ w. refl;
  second = rw (← e, ne_eqb j 0 h) refl;
  scratch = rw (← e, ne_eqb j 0 h) refl;
  len = refl;
}

-- a trial that is not refused before it
pub trial-as : {b s t b' s' t' : List ℤ} {a : Answer} (k : ℕ) (r q : Reply) → k ≡ 0 → r ≡ q → OnTrial 0 b s t b' s' t' a r → OnTrial k b s t b' s' t' a q
trial-as k r q e f p = rw (e, ← f) p

pub prepare-reply : (c : State) → trial_reply 0 c ≡ prepare_all c
unfolding trial_reply prepare_all
prepare-reply c = rw (turned_none c) refl

pub round-reply : (c : State) (l : ℤ) → below_one l ≡ false → trial_reply (nat_abs l) c ≡ round c l
unfolding trial_reply round below_one
round-reply c (pos zero) h = clash true refl h
round-reply c (pos (suc l)) h = rw (turned-some l c) refl
round-reply c (negsuc l) h = clash true refl h

-- ---- the test of the length

pub below-yes : (l : ℤ) → lt_z l (pos 1) ≡ true → below_one l ≡ true
unfolding below_one
below-yes (pos zero) h = refl
below-yes (pos (suc l)) h = let k : suc l < 1 = ltb-true (suc l) 1 h in absurd (omega arith)
below-yes (negsuc l) h = refl

pub below-no : (l : ℤ) → lt_z l (pos 1) ≡ false → below_one l ≡ false
unfolding below_one
below-no (pos zero) h = h
below-no (pos (suc l)) h = refl
below-no (negsuc l) h = h

-- ---- the group

-- a refused group lists nothing and changes nothing; another leaves the state of its trial
module _ (c : State) where
  pub group-refused : is_refused (group_length c).group ≡ true → ((group_length c).listed ≡ []) × ((group_length c).state ≡ c)
  unfolding group_length
  group-refused h =
      by-test (eqb (group_refusal (prepared_all c)) 0)
      (λ e. clash (is_refused (group_of (answers_of (prepared_all c).state (prepared_all c).state.active))) (rw e at h)
      (of-answered (answers_of (prepared_all c).state (prepared_all c).state.active)))
      (λ e. rw e (refl, refl))

  pub group-accepted : is_refused (group_length c).group ≡ false → (group_length c).state ≡ (prepared_all c).state
  unfolding group_length
  group-accepted h =
      by-test (eqb (group_refusal (prepared_all c)) 0)
      (λ e. rw e refl)
      (λ e. clash false (sym (rw e at h) ∙ unfold is_refused in refl) refl)

module _
    (b s t : List ℤ)
    (list list' : List ℕ)
    (s₁ s₂ b' s' t' : List ℤ)
    (g : Group)
    (h : trial_refusal b s t ≡ 0)
    (e : s₁ ≡ b)
    (p : GroupTried s₁ s₂ list list' g)
    (z : t' ≡ zero_scratch (length t))
    (back : b' ≡ (if is_refused g then b else s₂))
    (same : s' ≡ b')
  where
    from-group : GroupTried b s₂ list list' g
    from-group = rw e at p

    group-words : is_refused g ≡ true → list' ≡ list
    group-words q =
        let k : (group_length (state_of b)).listed ≡ [] = (group-refused (state_of b) (ap is_refused (sym from-group.group) ∙ q)).0 in
        from-group.words ∙ ap (λ xs. listed_from 0 xs list) k ∙ listed-none 0 list

    pub group-on-trial : GroupOnTrial 0 b s t list b' s' t' list' g (group_length (state_of b))
    group-on-trial = by-test (is_refused g) yes no
      where
        yes : is_refused g ≡ true → GroupOnTrial 0 b s t list b' s' t' list' g (group_length (state_of b))
        yes q =
            let k : b' ≡ b = rw q at back in
            record {
              answer = from-group.group;
              state = ap state_of k ∙ sym (group-refused (state_of b) (ap is_refused (sym from-group.group) ∙ q)).1;
              formed = λ w. rw k (trial-lent b s t h).0.formed;
              unchanged = λ w. k;
              listed = from-group.words;
              kept = group-words;
              second = same;
              scratch = z;
              len = ap length k;
            }

        no : is_refused g ≡ false → GroupOnTrial 0 b s t list b' s' t' list' g (group_length (state_of b))
        no q =
            let k : b' ≡ s₂ = rw q at back in
            record {
              answer = from-group.group;
              state = ap state_of k ∙ from-group.block.state ∙ sym (group-accepted (state_of b) (ap is_refused (sym from-group.group) ∙ q));
              formed = λ w. rw k from-group.block.formed;
              unchanged = λ w. clash (is_refused g) w q;
              listed = from-group.words;
              kept = group-words;
              second = same;
              scratch = z;
              len = ap length k ∙ from-group.block.len;
            }

-- refused before its trial
pub group-before : (b s t : List ℤ) (list : List ℕ) (j k : ℕ) (r : GroupReply) → j ≡ k → j ≢ 0 → GroupOnTrial k b s t list b s t list (GroupRefused j) r
group-before b s t list j k r e h = record {
  answer = rw (← e, ne_eqb j 0 h) refl;
  state = rw (← e, ne_eqb j 0 h) refl;
  formed = λ w. absurd (h (e ∙ w));
  unchanged = λ w. refl;
  listed = rw (← e, ne_eqb j 0 h) refl;
  kept = λ w. refl;
  second = rw (← e, ne_eqb j 0 h) refl;
  scratch = rw (← e, ne_eqb j 0 h) refl;
  len = refl;
}

pub group-as : {b s t b' s' t' : List ℤ} {list list' : List ℕ} {g : Group} {r : GroupReply} (k : ℕ) → k ≡ 0
    → GroupOnTrial 0 b s t list b' s' t' list' g r → GroupOnTrial k b s t list b' s' t' list' g r
group-as k e p = rw e p

-- a group that is not refused before its trial has N entries
pub group-lent : (b s t : List ℤ) (m : ℕ) → group_trial_refusal b s t m ≡ 0 → (trial_refusal b s t ≡ 0) × (m ≡ 5 * (state_of b).node_limit)
group-lent b s t m h =
    by-test (sized b && eqb m (5 * n_of b))
    (λ e.
    let k : trial_refusal b s t ≡ 0 = group-tested b s t m e ∙ h in
    (k, eqb-true m (5 * n_of b) (and_right (sized b) (eqb m (5 * n_of b)) e) ∙ ap (λ n. 5 * n) (limit-of b (trial-lent b s t k).0.formed.laid)))
    (λ e. absurd (let z : ◌≡◌ {A = ℕ} 1 0 = group-unlike b s t m e ∙ h in omega arith))
  where
    limit-of : (b : List ℤ) → Laid b → n_of b ≡ (state_of b).node_limit
    limit-of b q = unfold Laid in (sym q.counted.node-limit)

-- ---- renewal

-- a block that is lent alone and not refused is in form and sound
pub alone-accepted : (b : List ℤ) → block_refusal (sized b) b ≡ 0 → Formed b × (sound (state_of b) ≡ true)
alone-accepted b h = let l = memory-accepted b (zero_scratch (scratch_length (v_of b) (e_of b))) (alike ∙ h) in (l.formed, l.sounds)
  where
    long : (n : ℕ) → length (zero_scratch n) ≡ n
    long n = unfold zero_scratch in (length-replicate n (pos 0))

    fits : memory_fits b (zero_scratch (scratch_length (v_of b) (e_of b))) ≡ sized b
    fits = unfold memory_fits in (rw (long (scratch_length (v_of b) (e_of b)), eq-eqb (scratch_length (v_of b) (e_of b)) (scratch_length (v_of b) (e_of b)) refl) (last (sized b)))
      where
        last : (x : Bool) → x && true ≡ x
        last true = refl
        last false = refl

    alike : memory_refusal b (zero_scratch (scratch_length (v_of b) (e_of b))) ≡ block_refusal (sized b) b
    alike = unfold memory_refusal in (ap (λ f. block_refusal f b) fits)

pub renew-replies : {b b' : List ℤ} → Becomes b b' (renewed (state_of b)) → Replies b b' Done (renew_active_list (state_of b))
unfolding renew_active_list
renew-replies p = record { answer = refl; block = p }
