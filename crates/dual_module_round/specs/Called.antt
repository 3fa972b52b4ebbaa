-- The calls on all clusters, on memory that a host lends. A trial is worked on a second block and copied back only if no node refuses; what the
-- answer is, and what block, second block, scratch and list hold afterwards.
use Rattle.std.specs.Prelude.{ℕ, zero, suc, ◌*◌, ◌≡◌, ◌≢◌, Bool, true, false, ◌&&◌, List, ℤ, pos, negsuc, eqb, length, if◌then◌else◌}
use Rattle.graph.specs.State.{State}
use Rattle.graph.specs.Layout.{n_of, state_of, sized, memory_fits, block_refusal}
use Rattle.graph.specs.Form.{Formed}
use Rattle.pass.specs.Scratch.{zero_scratch}
use Rattle.answers.specs.Outcome.{Answer}
use Rattle.answers.specs.Numbers.{OnPaper}
use Rattle.answers.specs.Answer.{Reply}
use Rattle.calls.specs.Group.{GroupMaxUpdateLength as Group}
use Rattle.calls.specs.Group.{Refused}
use Rattle.answers.specs.Outcome.{Done, Refused as RefusedCall}
use Rattle.calls.specs.Refuse.{unless}
use Rattle.calls.specs.Round.{refusal_of, tried, renew_active_list, prepare_all, round, GroupReply, is_refused, group_length}
use Rattle.round_trial.specs.Trial.{whole_trial}
use Rattle.round_list.specs.Asked.{listed_from}
use Rattle.dual_module.specs.Called.{Called}

-- ---- what refuses a trial before it starts

-- block, scratch and a second block of the block's length; the block sound
unfoldable pub trial_refusal : List ℤ → List ℤ → List ℤ → ℕ
trial_refusal b s t = block_refusal (memory_fits b t && eqb (length s) (length b)) b

-- the same with a list of m words, 5 for each of N entries
unfoldable pub group_trial_refusal : List ℤ → List ℤ → List ℤ → ℕ → ℕ
group_trial_refusal b s t m = block_refusal (memory_fits b t && eqb (length s) (length b) && eqb m (5 * n_of b)) b

-- a round is by 1 at least
unfoldable pub below_one : ℤ → Bool
below_one (pos zero) = true
below_one (pos (suc l)) = false
below_one (negsuc l) = true

-- 14 comes after them
unfoldable pub round_refusal : List ℤ → List ℤ → List ℤ → ℤ → ℕ
round_refusal b s t l = if eqb (trial_refusal b s t) 0 then (if below_one l then 14 else 0) else trial_refusal b s t

-- ---- what a trial leaves

-- From block b, second block s and scratch t, where k is 0 or refuses the trial: answer and state are those of the reply r. A refusal
-- leaves every word of the block. Once a trial was worked, the second block is the block, word for word, and the scratch is all zero.
pub record OnTrial (k : ℕ) (b s t b' s' t' : List ℤ) (a : Answer) (r : Reply) : Type 0 where
  pub answer : OnPaper a (unless k (state_of b) r).answer
  pub state : state_of b' ≡ (unless k (state_of b) r).state
  pub formed : k ≡ 0 → Formed b'
  pub unchanged : refusal_of a ≢ 0 → b' ≡ b
  pub second : s' ≡ (if eqb k 0 then b' else s)
  pub scratch : t' ≡ (if eqb k 0 then zero_scratch (length t) else t)
  pub len : length b' ≡ length b

-- what a trial of length l replies
unfoldable pub trial_reply : ℕ → State → Reply
trial_reply l c = tried c (whole_trial l c) Done

-- its answer, where r is 0 or the refusal that it met first
unfoldable pub trial_answer : ℕ → Answer
trial_answer r = if eqb r 0 then Done else RefusedCall r

-- the same for the group, which lists what stands in the way; a refusal leaves the list
pub record GroupOnTrial (k : ℕ) (b s t : List ℤ) (list : List ℕ) (b' s' t' : List ℤ) (list' : List ℕ) (g : Group) (r : GroupReply) : Type 0 where
  pub answer : g ≡ (if eqb k 0 then r.group else Refused k)
  pub state : state_of b' ≡ (if eqb k 0 then r.state else state_of b)
  pub formed : k ≡ 0 → Formed b'
  pub unchanged : is_refused g ≡ true → b' ≡ b
  pub listed : list' ≡ (if eqb k 0 then listed_from 0 r.listed list else list)
  pub kept : is_refused g ≡ true → list' ≡ list
  pub second : s' ≡ (if eqb k 0 then b' else s)
  pub scratch : t' ≡ (if eqb k 0 then zero_scratch (length t) else t)
  pub len : length b' ≡ length b

-- ---- what each public function promises

-- no second block and no scratch
abbrev pub RenewCalled : List ℤ → List ℤ → Answer → Type 0
RenewCalled b b' a = Called (block_refusal (sized b) b) b b' a true (renew_active_list (state_of b))

abbrev pub PrepareAllCalled : List ℤ → List ℤ → List ℤ → List ℤ → List ℤ → List ℤ → Answer → Type 0
PrepareAllCalled b s t b' s' t' a = OnTrial (trial_refusal b s t) b s t b' s' t' a (prepare_all (state_of b))

abbrev pub RoundCalled : List ℤ → List ℤ → List ℤ → ℤ → List ℤ → List ℤ → List ℤ → Answer → Type 0
RoundCalled b s t l b' s' t' a = OnTrial (round_refusal b s t l) b s t b' s' t' a (round (state_of b) l)

abbrev pub GroupCalled : List ℤ → List ℤ → List ℤ → List ℕ → List ℤ → List ℤ → List ℤ → List ℕ → Group → Type 0
GroupCalled b s t list b' s' t' list' g = GroupOnTrial (group_trial_refusal b s t (length list)) b s t list b' s' t' list' g (group_length (state_of b))
