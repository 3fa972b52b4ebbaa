-- A call on memory that a host lends (SPECIFICATION 7.1): what it answers, and what block and scratch hold afterwards.
use Rattle.std.specs.Prelude.{◌≡◌, ℕ, Bool, true, false, not, ◌&&◌, List, [], ◌∷◌, map, length, ℤ, pos, ◌==◌, nat_lt, unsigned_abs, if◌then◌else◌}
use Rattle.graph.specs.State.{State, stay, shrinking, up, grow_state_of}
use Rattle.graph.specs.Word.{to_nat}
use Rattle.graph.specs.Layout.{state_of, memory_refusal, list_refusal}
use Rattle.graph.specs.Form.{Formed}
use Rattle.pass.specs.Scratch.{zero_scratch}
use Rattle.answers.specs.Outcome.{Answer}
use Rattle.answers.specs.Outcome.{Done}
use Rattle.answers.specs.Answer.{Reply, says}
use Rattle.answers.specs.Numbers.{OnPaper}
use Rattle.calls.specs.Refuse.{node_refusal, store_short, unless}
use Rattle.calls.specs.Reply.{over_front}
use Rattle.calls.specs.Insert.{defect_refusal, blossom_refusal, insert_defect, insert_blossom}
use Rattle.calls.specs.Calls.{set_grow_state, prepare_dual_node_growth, max_update_length, grow_dual_node, advance, growth_table, representative_vertex, clear}
use Rattle.calls.specs.Contacts.{contacts, contact_words}

-- the call writes: k, the refusal of what is lent, is 0, and the call itself says so
abbrev pub lent_writes : ℕ → Bool → Bool
lent_writes k writes = k == 0 && writes

-- From the block b to b', where k is 0 or refuses what is lent: on paper the answer is that of the reply r, and so is the state, or they are
-- those of the refusal with nothing changed. A call that doesn't write leaves every word as it was. Of one that does, the words that hold no part of the state are free
-- (docs/LAYOUT.md names them), and no call reads them.
pub record Called (k : ℕ) (b b' : List ℤ) (a : Answer) (writes : Bool) (r : Reply) : Type 0 where
  pub answer : OnPaper a (unless k (state_of b) r).answer
  pub state : state_of b' ≡ (unless k (state_of b) r).state
  pub formed : k ≡ 0 → Formed b'
  pub unchanged : lent_writes k writes ≡ false → b' ≡ b
  pub len : length b' ≡ length b

-- The same of a call that prepares or inserts where it writes: it leaves the scratch all zero then, and as it was else.
pub record CalledWithScratch (k : ℕ) (b t b' t' : List ℤ) (a : Answer) (writes : Bool) (r : Reply) : Type 0 where
  pub block : Called k b b' a writes r
  pub scratch : t' ≡ (if lent_writes k writes then zero_scratch (length t) else t)

-- ---- which calls write

-- an accepted insertion writes
unfoldable pub defect_writes : State → ℕ → ℕ → Bool
defect_writes c v x = defect_refusal c v x == 0

unfoldable pub blossom_writes : State → ℕ → List ℕ → Bool
blossom_writes c x circle = blossom_refusal c x circle == 0

-- so does an accepted change of state
unfoldable pub state_writes : State → ℕ → ℕ → Bool
state_writes c n x = node_refusal c n (nat_lt shrinking x) false == 0

-- preparation
unfoldable pub prepare_writes : State → ℕ → ℕ → Bool
prepare_writes c n d = node_refusal c n (nat_lt up d) (store_short c (n ∷ []) 1) == 0

-- a length that prepares first
unfoldable pub length_writes : State → ℕ → ℕ → Bool → Bool
length_writes c n d first = first && prepare_writes c n d

-- growth by another length than 0
unfoldable pub grow_writes : State → ℕ → ℤ → Bool
grow_writes c n l = not (unsigned_abs l == 0) && prepare_writes c n up

-- advance of a node that is not Stay
unfoldable pub advance_writes : State → ℕ → Bool
advance_writes c n = not (grow_state_of c n == stay) && prepare_writes c n up

-- ---- what each public function promises
-- b and t are block and scratch before, b' and t' after, a the answer; numbers and lists beside them stand between

abbrev pub DefectCalled : List ℤ → List ℤ → ℕ → ℕ → List ℤ → List ℤ → Answer → Type 0
DefectCalled b t v x b' t' a = CalledWithScratch (memory_refusal b t) b t b' t' a (defect_writes (state_of b) v x) (insert_defect (state_of b) v x)

-- a word of the circle that is below 0 names no node
abbrev pub BlossomCalled : List ℤ → List ℤ → ℕ → List ℤ → List ℤ → List ℤ → Answer → Type 0
BlossomCalled b t x circle b' t' a =
    CalledWithScratch (memory_refusal b t) b t b' t' a (blossom_writes (state_of b) x (map to_nat circle))
    (insert_blossom (state_of b) x (map to_nat circle))

-- the scratch is only read
abbrev pub StateCalled : List ℤ → List ℤ → ℕ → ℕ → List ℤ → Answer → Type 0
StateCalled b t n x b' a = Called (memory_refusal b t) b b' a (state_writes (state_of b) n x) (set_grow_state (state_of b) n x)

abbrev pub PrepareCalled : List ℤ → List ℤ → ℕ → ℕ → List ℤ → List ℤ → Answer → Type 0
PrepareCalled b t n d b' t' a = CalledWithScratch (memory_refusal b t) b t b' t' a (prepare_writes (state_of b) n d) (prepare_dual_node_growth (state_of b) n d)

abbrev pub LengthCalled : List ℤ → List ℤ → ℕ → ℕ → Bool → List ℤ → List ℤ → Answer → Type 0
LengthCalled b t n d first b' t' a =
    CalledWithScratch (memory_refusal b t) b t b' t' a (length_writes (state_of b) n d first)
    (max_update_length (state_of b) n d first)

abbrev pub GrowCalled : List ℤ → List ℤ → ℕ → ℤ → List ℤ → List ℤ → Answer → Type 0
GrowCalled b t n l b' t' a = CalledWithScratch (memory_refusal b t) b t b' t' a (grow_writes (state_of b) n l) (grow_dual_node (state_of b) n l)

abbrev pub AdvanceCalled : List ℤ → List ℤ → ℕ → List ℤ → List ℤ → Answer → Type 0
AdvanceCalled b t n b' t' a = CalledWithScratch (memory_refusal b t) b t b' t' a (advance_writes (state_of b) n) (advance (state_of b) n)

-- the scratch is only read
abbrev pub ClearCalled : List ℤ → List ℤ → List ℤ → Answer → Type 0
ClearCalled b t b' a = Called (memory_refusal b t) b b' a true (clear (state_of b))
