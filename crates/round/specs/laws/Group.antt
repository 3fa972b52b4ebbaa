-- The length of the group: from what was listed and asked to what the definition says.
use Rattle.std.specs.Prelude.{ℕ, ◌+◌, ◌-◌, ◌*◌, ◌≤◌, ◌≡◌, refl, ◌≢◌, ℤ, ltb, length}
use Rattle.std.proofs.Common.{arith, sym, ◌∙◌}
use Rattle.std.proofs.Math.Path.{ap}
use Rattle.std.proofs.Math.Bool.{true, false}
use mathlib.Core.List.{List, [], ◌∷◌}
use Rattle.std.proofs.Math.Dec.{eqb}
use borrow.Author.Tests.{eq-eqb, ne_eqb}
use Rattle.graph.specs.Basic.{all, fold}
use Rattle.graph.specs.State.{State, with_active, up, down}
use Rattle.graph.specs.Active.{renewed}
use Rattle.graph.specs.Layout.{state_of}
use Rattle.graph.specs.Form.{Laid}
use Rattle.pass.proofs.laws.Prepare.{prepare-passed}
use Rattle.answers.specs.Outcome.{Answer}
use Rattle.answers.specs.Answer.{Reply, says}
use Rattle.calls.specs.Group.{GroupMaxUpdateLength as Group}
use Rattle.calls.specs.Group.{Unlimited as group_unlimited, Conflicts as group_conflicts, Refused as group_refused}
use Rattle.calls.specs.Refuse.{node_refusal, store_short}
use Rattle.calls.specs.Calls.{prepare_dual_node_growth}
use Rattle.calls.specs.Round.{is_free, join_free, answers_of, first_refusal, conflicts_of, stops_of, group_of, listed_by, preparing, prepared_all, group_refusal, group_length}
use Rattle.calls.proofs.laws.Accepted.{unless-cases}
use Rattle.calls.proofs.laws.Listed.{both-lists, answers-length}
use Rattle.calls.proofs.laws.Trial.{turn-keeps}
use Rattle.round_trial.specs.Trial.{whole_trial}
use Rattle.round_trial.specs.inner.Step.{TriedTo}
use Rattle.round_list.specs.Asked.{listed_from}
use Rattle.round_list.specs.inner.Listed.{Listing}
use Rattle.round.specs.inner.Group.{ListedGroup, AskedGroup, GroupTried}
use Rattle.round_trial.specs.laws.InTurn.{turned_none}
use Rattle.round_list.specs.laws.Listing.{listed-append, listed-none}

-- ---- what is listed

-- a list of N entries has room for all
pub list-room : (b : List ℤ) → Laid b
    → length (conflicts_of (answers_of (state_of b) (state_of b).active)) + length
    (stops_of (answers_of (state_of b) (state_of b).active))
    ≤ (state_of b).node_limit
unfolding Laid
list-room b q = omega (arith, both-lists (answers_of (state_of b) (state_of b).active), answers-length (state_of b) (state_of b).active, q.counted)

pub listed-group : {list list₁ list₂ : List ℕ} {k j : ℕ} (xs : List Answer) → Listing 0 (conflicts_of xs) list list₁ k
    → 5 * length (conflicts_of xs) ≤ length list → Listing k (stops_of xs) list₁ list₂ j
    → ListedGroup xs list list₂ (group_conflicts k (j - k))
listed-group {list} {list₁} {list₂} {k} {j} xs p room q =
    let a : k ≡ length (conflicts_of xs) = omega (arith, p.count) in
    let b : j - k ≡ length (stops_of xs) = omega (arith, q.count) in
    record {
      group = ap (λ x. group_conflicts x (j - k)) a ∙ ap (group_conflicts (length (conflicts_of xs))) b;
      words = q.words ∙ rw (p.count, p.words) (listed-append 0 (conflicts_of xs) (stops_of xs) list (omega arith));
    }

-- ---- what is asked

module _ (xs : List Answer) (list : List ℕ) where
  pub asked-free : {g : Group} → all is_free xs ≡ true → g ≡ fold join_free (group_unlimited false) xs → AskedGroup xs list list g
  unfolding group_of listed_by
  asked-free t e = record { group = rw t e; words = rw t (sym (listed-none 0 list)) }

  pub asked-listed : {g : Group} {list' : List ℕ} → all is_free xs ≡ false → ListedGroup xs list list' g → AskedGroup xs list list' g
  unfolding group_of listed_by
  asked-listed t p = record { group = rw t p.group; words = rw t p.words }

-- ---- the trial

limit-kept : (c : State) → (prepared_all c).state.node_limit ≡ c.node_limit
unfolding prepared_all
limit-kept c =
    turn-keeps (λ (d : State). d.node_limit ≡ c.node_limit) (preparing down) (preparing up) (keeps down) (keeps up) c
    (unfold renewed with_active in refl)
  where
    keeps : (d : ℕ) (e : State) (n : ℕ) → e.node_limit ≡ c.node_limit → (preparing d e n).state.node_limit ≡ c.node_limit
    keeps d e n h =
        unfold preparing prepare_dual_node_growth says in
        (unless-cases (λ (r : Reply). r.state.node_limit ≡ c.node_limit)
        (node_refusal e n (ltb up d) (store_short e (n ∷ []) 1)) e _ (λ k. h) (λ k. (prepare-passed e n d).node_limit ∙ h))

module _ (b b' : List ℤ) (r : ℕ) (p : TriedTo b b' r (whole_trial 0 (state_of b))) where
  pub prepared-to : TriedTo b b' r (prepared_all (state_of b))
  prepared-to = rw (← turned_none (state_of b)) p

  pub same-limit : (state_of b').node_limit ≡ (state_of b).node_limit
  same-limit = ap (λ (c : State). c.node_limit) prepared-to.block.state ∙ limit-kept (state_of b)

  pub group-stopped : (list : List ℕ) → r ≢ 0 → GroupTried b b' list list (group_refused r)
  unfolding group_length group_refusal
  group-stopped list h =
      let q : eqb (prepared_all (state_of b)).refusal 0 ≡ false = ne_eqb (prepared_all (state_of b)).refusal 0 (λ z. h (prepared-to.refusal ∙ z)) in
      record {
        group = rw (q, q) (ap group_refused prepared-to.refusal);
        words = rw (q, q) (sym (listed-none 0 list));
        block = prepared-to.block;
      }

  module _ (z : r ≡ 0) where
    pub prepared-ok : (prepared_all (state_of b)).refusal ≡ 0
    prepared-ok = sym prepared-to.refusal ∙ z

    accepted : eqb (prepared_all (state_of b)).refusal 0 ≡ true
    accepted = eq-eqb (prepared_all (state_of b)).refusal 0 prepared-ok

    abbrev answers : State → List Answer
    answers c = answers_of c c.active

    same-answers : answers (state_of b') ≡ answers (prepared_all (state_of b)).state
    same-answers = ap answers prepared-to.block.state

    module _ (s : ℕ) (e : s ≡ first_refusal (answers (state_of b'))) (list : List ℕ) where
      number : s ≡ first_refusal (answers (prepared_all (state_of b)).state)
      number = e ∙ ap first_refusal same-answers

      pub group-refused : s ≢ 0 → GroupTried b b' list list (group_refused s)
      unfolding group_length group_refusal
      group-refused h =
          let q : eqb (first_refusal (answers (prepared_all (state_of b)).state)) 0 ≡ false = ne_eqb _ 0 (λ w. h (number ∙ w)) in
          record {
            group = rw (accepted, q) (ap group_refused number);
            words = rw (accepted, q) (sym (listed-none 0 list));
            block = prepared-to.block;
          }

      pub group-asked : {g : Group} {list' : List ℕ} → s ≡ 0 → AskedGroup (answers (state_of b')) list list' g → GroupTried b b' list list' g
      unfolding group_length group_refusal
      group-asked h a =
          let q : eqb (first_refusal (answers (prepared_all (state_of b)).state)) 0 ≡ true = eq-eqb _ 0 (sym number ∙ h) in
          record {
            group = rw (accepted, q) (a.group ∙ ap group_of same-answers);
            words = rw (accepted, q) (a.words ∙ ap (λ (xs : List Answer). listed_from 0 (listed_by xs) list) same-answers);
            block = prepared-to.block;
          }
