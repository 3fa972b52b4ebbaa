-- What is proved of calls on sound states, each with its test where it has one; each proof cites a law.
use Rattle.std.specs.Prelude.{ℕ, ◌≤◌, ◌≡◌, Bool, true, List, ℤ}
use Rattle.graph.specs.State.{State, vertex_count}
use Rattle.graph.specs.Sound.{state_sound}
use Rattle.graph.specs.Shape.{Shape}
use Rattle.calls.specs.Insert.{insert_defect, insert_blossom}
use Rattle.calls.specs.Each.{set_grow_state, prepare_dual_node_growth, max_update_length, grow_dual_node, advance, clear}
use Rattle.calls.specs.Keeps.{prepare_keeps, length_keeps, grow_keeps, advance_keeps, blossom_keeps}
use Rattle.reachable.specs.Reachable.{Reachable}
use Rattle.reachable.specs.laws.past.Calls.{reachable-invariant}
use Rattle.soundness_theorem.specs.KeptSound.{KeptSound}
use Rattle.soundness_theorem.specs.laws.Calls.{prepare-kept, length-kept, grow-kept, advance-kept, state-kept, clear_kept}
use Rattle.soundness_theorem.specs.laws.Defect.{defect-kept}
use Rattle.soundness_theorem.specs.laws.Blossom.{blossom-kept}
use Rattle.soundness_theorem.specs.laws.Reached.{prepare-passes, length-passes, grow-passes, advance-passes, blossom-passes}

-- ---- on every sound state, whether the call is refused or not (Shape: the lists have the lengths that V, E and the nodes fix, as those of every block have)

module _ (c : State) (z : Shape c) (v1 : 1 ≤ vertex_count c) (h : state_sound c ≡ true) where
  -- a preparation leaves a sound state, if its test is passed
  pub prepare-keeps : (n d : ℕ) → prepare_keeps c n d ≡ true → KeptSound c (prepare_dual_node_growth c n d).state
  prepare-keeps = prepare-kept c (record { shape = z; one = v1; sounds = h })

  -- so does a length
  pub length-keeps : (n d : ℕ) (first : Bool) → length_keeps c n d first ≡ true → KeptSound c (max_update_length c n d first).state
  length-keeps = length-kept c (record { shape = z; one = v1; sounds = h })

  -- so does a growth
  pub grow-keeps : (n : ℕ) (l : ℤ) → grow_keeps c n l ≡ true → KeptSound c (grow_dual_node c n l).state
  grow-keeps = grow-kept c (record { shape = z; one = v1; sounds = h })

  -- so does advance
  pub advance-keeps : (n : ℕ) → advance_keeps c n ≡ true → KeptSound c (advance c n).state
  advance-keeps = advance-kept c (record { shape = z; one = v1; sounds = h })

  -- so does a blossom
  pub blossom-keeps : (x : ℕ) (circle : List ℕ) → blossom_keeps c x circle ≡ true → KeptSound c (insert_blossom c x circle).state
  blossom-keeps = blossom-kept c (record { shape = z; one = v1; sounds = h })

  -- a defect always does
  pub defect-keeps : (v x : ℕ) → KeptSound c (insert_defect c v x).state
  defect-keeps = defect-kept c (record { shape = z; one = v1; sounds = h })

  -- so does setting a grow state
  pub state-keeps : (n x : ℕ) → KeptSound c (set_grow_state c n x).state
  state-keeps = state-kept c (record { shape = z; one = v1; sounds = h })

  -- so does clear
  pub clear-keeps : KeptSound c (clear c).state
  clear-keeps = clear_kept c (record { shape = z; one = v1; sounds = h })

-- ---- on states that calls reach

module _ (c : State) (r : Reachable c) where
  -- the test of a preparation is always passed
  pub reached-prepare : (n d : ℕ) → prepare_keeps c n d ≡ true
  reached-prepare = prepare-passes c (reachable-invariant c r)

  -- so is that of a length
  pub reached-length : (n d : ℕ) (first : Bool) → length_keeps c n d first ≡ true
  reached-length = length-passes c (reachable-invariant c r)

  -- so is that of a growth
  pub reached-grow : (n : ℕ) (l : ℤ) → grow_keeps c n l ≡ true
  reached-grow = grow-passes c (reachable-invariant c r)

  -- so is that of advance
  pub reached-advance : (n : ℕ) → advance_keeps c n ≡ true
  reached-advance = advance-passes c (reachable-invariant c r)

  -- so is that of a blossom
  pub reached-blossom : (x : ℕ) (circle : List ℕ) → blossom_keeps c x circle ≡ true
  reached-blossom = blossom-passes c (reachable-invariant c r)
