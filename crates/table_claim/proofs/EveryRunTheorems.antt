-- What holds after every list of calls on lent memory (Lent, Run): blossoms, weights of 0 and refused calls among them.
use Rattle.std.specs.Prelude.{ℕ, ◌≤◌, ◌≡◌, ◌⊎◌, true, List, [], map, ℤ, length, get_or, if◌then◌else◌}
use Rattle.std.proofs.Common.{subst, ⊎_elim, inl, inr}
use Rattle.graph.specs.Open.{Edge}
use Rattle.graph.specs.Layout.{state_of, sized, block_sound, memory_refusal, list_refusal}
use Rattle.gap.specs.declared.Gap.TheVariants.{Over}
use Rattle.dual_module_gap.specs.Outcome.{Found}
use Rattle.dual_module_gap.specs.GapRead.{GapRead}
use Rattle.c_api_gap.specs.Told.{GapTold}
use Rattle.reachable.specs.Reachable.{after}
use Rattle.table_claim.specs.Lent.{Exchange, Steps, AnySteps}
use Rattle.table_claim.specs.Run.{scratch_fits, list_fits, calls_of, returned_from, history_by, LentRun, run_sizes, run_start, run_calls, lent_history, SinceOpening}
use Rattle.table_claim.proofs.laws.Steps.{memory-fits, list-fits, cut-at-opening}
use Rattle.table_claim.proofs.laws.EveryRun.{last-whole, last-state, last-sized, last-sound, last-returned, last-history}
use Rattle.table_claim.specs.Hosted.{HostRun}
use Rattle.table_claim.proofs.laws.Gap.{last-never-over, told-never-18}

-- a block is sound: its sizes are in range and it has their length, and everything that refusal 2 tests holds
abbrev pub SoundBlock : List ℤ → Type 0
SoundBlock b = (sized b ≡ true) × (block_sound b ≡ true)

module _ {v : ℕ} {edges : List Edge} {virtuals : List ℕ} (r : LentRun v edges virtuals) where
  -- The block is sound.
  pub block-is-sound : SoundBlock r.last
  block-is-sound = (last-sized r, last-sound r)

  -- So what is lent to a call on it is never refused 2, and refused 1 only for the length of scratch or list.
  pub only-lengths-are-refused : (t : List ℤ) → memory_refusal r.last t ≡ (if scratch_fits (run_sizes r) t then 0 else 1)
  only-lengths-are-refused = memory-fits (last-whole r)

  pub only-list-lengths-are-refused : (t list : List ℤ) (m : ℕ) → list_refusal r.last t (length list) m ≡ (if list_fits (run_sizes r) m t list then 0 else 1)
  only-list-lengths-are-refused = list-fits (last-whole r)

  -- It holds the state that the definitions give for the calls whose memory has its lengths.
  pub block-holds-state : state_of r.last ≡ after (run_start r) (run_calls r)
  block-holds-state = last-state r

  -- Over is never answered for the gap of an edge of it.
  pub gap-read-never-over : (t : List ℤ) (e x : ℕ) → GapRead r.last t e (Found (Over x)) → ⊥
  gap-read-never-over = last-never-over r

  -- The protocol, line by line: what the host got from each call is what the definitions answer in the state that the calls before it left.
  pub protocol-is-defined : map (λ (x : Exchange). x.got) r.exchanges ≡ returned_from (run_sizes r) (run_start r) (calls_of r.exchanges)
  protocol-is-defined = last-returned r

  -- So the history is the one that the host's own answers tell.
  pub protocol-tells-history : history_by (run_sizes r) (run_start r) [] r.exchanges ≡ lent_history r
  protocol-tells-history = last-history r

-- Whatever calls are made on whatever block: no opening was accepted, or those since the last that was are a run.
pub calls-since-opening-are-a-run : {b b' : List ℤ} {xs : List Exchange} → AnySteps b xs b' → Steps b xs b' ⊎ SinceOpening xs b'
calls-since-opening-are-a-run = cut-at-opening

-- So once an opening was accepted the block is sound, whatever calls and openings follow.
pub sound-since-an-opening : {b b' : List ℤ} {xs : List Exchange} → AnySteps b xs b' → Steps b xs b' ⊎ SoundBlock b'
sound-since-an-opening s =
    ⊎_elim inl (λ (c : SinceOpening _ _). inr (subst SoundBlock c.leads (block-is-sound c.run))) (cut-at-opening s)

-- After exported calls: a list with room for an answer is never told over, case 18.
pub gap-told-never-over : {v : ℕ} {edges : List Edge} {virtuals : List ℕ} (r : HostRun v edges virtuals)
    (t : List ℤ) (e : ℕ) {list list' : List ℕ} {k : ℕ} → GapTold r.last t e list list' k → 5 ≤ length list → get_or list' 0 0 ≡ 18 → ⊥
gap-told-never-over = told-never-18
