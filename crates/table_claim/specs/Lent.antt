-- Calls on a lent block, about what the functions of the library promise: a step from a block to the next is the promise of the function
-- that was called, by its name in crate `dual_module` (specs/Called). What comes back beside the block may be anything that the promise allows.
use Rattle.std.specs.Prelude.{ℕ, ◌≢◌, Bool, List, [], ◌∷◌, ℤ}
use Rattle.graph.specs.Opening.{OpenCalled}
use Rattle.answers.specs.Outcome.{Answer}
use Rattle.dual_module.specs.Called.{DefectCalled, BlossomCalled, StateCalled, PrepareCalled, LengthCalled, GrowCalled, AdvanceCalled, ClearCalled}
use Rattle.dual_module_read.specs.Read.{VertexRead, TableRead, ContactsRead, ContactsCounted}
use Rattle.sheet.specs.Outcome.{SheetOpened, Opened, Refused}
use Rattle.sheet.specs.Called.{SheetCalled}
use Rattle.calls.specs.Group.{GroupMaxUpdateLength}
use Rattle.dual_module_round.specs.Called.{RenewCalled, PrepareAllCalled, RoundCalled, GroupCalled}
use Rattle.dual_module_remove.specs.Called.{RemoveCalled}
use Rattle.dual_module_node.specs.Outcome.{NodeRead}
use Rattle.dual_module_node.specs.ReadNode.{ReadNodeCalled}
use Rattle.dual_module_gap.specs.Outcome.{GapAnswer}
use Rattle.dual_module_gap.specs.GapRead.{GapRead}
use Rattle.dual_module_modifier.specs.Called.{ModifierCalled}

-- a call with all that it is given beside the block: the scratch t first, numbers, and the words of other lent lists
pub data LentCall : Type 0 where
  lent_open : (t : List ℤ) (v e n l : ℕ) (edges virtuals : List ℤ) → LentCall
  lent_defect : (t : List ℤ) (vertex state : ℕ) → LentCall
  lent_blossom : (t : List ℤ) (state : ℕ) (circle : List ℤ) → LentCall
  lent_state : (t : List ℤ) (node state : ℕ) → LentCall
  lent_prepare : (t : List ℤ) (node direction : ℕ) → LentCall
  lent_length : (t : List ℤ) (node direction : ℕ) (first : Bool) → LentCall
  lent_grow : (t : List ℤ) (node : ℕ) (by : ℤ) → LentCall
  lent_table : (t list : List ℤ) → LentCall
  lent_advance : (t : List ℤ) (node : ℕ) → LentCall
  lent_contacts : (t list : List ℤ) → LentCall
  lent_vertex : (t : List ℤ) (node : ℕ) → LentCall
  lent_clear : (t : List ℤ) → LentCall
  lent_sheet : (t : List ℤ) (v e n l : ℕ) (edges sheet virtuals : List ℤ) → LentCall
  lent_renew : LentCall
  lent_prepare_all : (second t : List ℤ) → LentCall
  lent_group : (second t : List ℤ) (entries : List ℕ) → LentCall
  lent_round : (second t : List ℤ) (by : ℤ) → LentCall
  lent_remove : (t : List ℤ) (node : ℕ) → LentCall
  lent_node : (t : List ℤ) (node : ℕ) → LentCall
  lent_gap : (t : List ℤ) (edge : ℕ) → LentCall
  lent_weights : (t pairs : List ℤ) → LentCall

-- what the host gets from a call
pub data Returned : Type 0 where
  opening : ℕ → Returned  -- of an opening: 0, or the number of its refusal
  returns : Answer → Returned
  returns_list : Answer → List ℤ → Returned  -- and what its lent list holds then
  returns_count : Answer → ℕ → List ℤ → Returned  -- and how many of its words were written
  returns_group : GroupMaxUpdateLength → List ℕ → Returned  -- of the group: its answer, and what its lent entries hold then
  returns_node : NodeRead → Returned  -- of a node that is read
  returns_gap : GapAnswer → Returned  -- of the gap of an edge
  opening_sheet : SheetOpened → List ℤ → Returned  -- of an opening from a sheet: its answer, and what the edges hold then

-- From the block b a call leads to the block b', and the host gets r. Reading leaves the block. An opening among the calls is one that is
-- refused: one that is accepted starts a list of calls of its own.
pub data Step (b : List ℤ) : LentCall → Returned → List ℤ → Type 0 where
  open-refused : {t edges virtuals b' : List ℤ} {v e n l k : ℕ} → OpenCalled b t v e n l edges virtuals b' k → k ≢ 0
      → Step b (lent_open t v e n l edges virtuals) (opening k) b'
  insert-defect : {t b' t' : List ℤ} {v x : ℕ} {a : Answer} → DefectCalled b t v x b' t' a → Step b (lent_defect t v x) (returns a) b'
  insert-blossom : {t circle b' t' : List ℤ} {x : ℕ} {a : Answer} → BlossomCalled b t x circle b' t' a
      → Step b (lent_blossom t x circle) (returns a) b'
  set-grow-state : {t b' : List ℤ} {n x : ℕ} {a : Answer} → StateCalled b t n x b' a → Step b (lent_state t n x) (returns a) b'
  prepare : {t b' t' : List ℤ} {n d : ℕ} {a : Answer} → PrepareCalled b t n d b' t' a → Step b (lent_prepare t n d) (returns a) b'
  max-update-length : {t b' t' : List ℤ} {n d : ℕ} {first : Bool} {a : Answer} → LengthCalled b t n d first b' t' a
      → Step b (lent_length t n d first) (returns a) b'
  grow : {t b' t' : List ℤ} {n : ℕ} {l : ℤ} {a : Answer} → GrowCalled b t n l b' t' a → Step b (lent_grow t n l) (returns a) b'
  read_table : {t list list' : List ℤ} {a : Answer} → TableRead b t list list' a → Step b (lent_table t list) (returns_list a list') b
  advance : {t b' t' : List ℤ} {n : ℕ} {a : Answer} → AdvanceCalled b t n b' t' a → Step b (lent_advance t n) (returns a) b'
  contacts : {t list list' : List ℤ} {a : Answer} {k : ℕ} → ContactsRead b t list list' a → ContactsCounted b t list k
      → Step b (lent_contacts t list) (returns_count a k list') b
  representative-vertex : {t : List ℤ} {n : ℕ} {a : Answer} → VertexRead b t n a → Step b (lent_vertex t n) (returns a) b
  clear : {t b' : List ℤ} {a : Answer} → ClearCalled b t b' a → Step b (lent_clear t) (returns a) b'
  sheet-refused : {t edges sheet virtuals edges' b' : List ℤ} {v e n l k : ℕ}
      → SheetCalled b t v e n l edges sheet virtuals edges' b' (Refused k)
      → Step b (lent_sheet t v e n l edges sheet virtuals) (opening_sheet (Refused k) edges') b'
  renew-active-list : {b' : List ℤ} {a : Answer} → RenewCalled b b' a → Step b lent_renew (returns a) b'
  prepare-all : {s t b' s' t' : List ℤ} {a : Answer} → PrepareAllCalled b s t b' s' t' a → Step b (lent_prepare_all s t) (returns a) b'
  group-length : {s t b' s' t' : List ℤ} {entries entries' : List ℕ} {g : GroupMaxUpdateLength} → GroupCalled b s t entries b' s' t' entries' g
      → Step b (lent_group s t entries) (returns_group g entries') b'
  round : {s t b' s' t' : List ℤ} {l : ℤ} {a : Answer} → RoundCalled b s t l b' s' t' a → Step b (lent_round s t l) (returns a) b'
  remove-blossom : {t b' t' : List ℤ} {n : ℕ} {a : Answer} → RemoveCalled b t n b' t' a → Step b (lent_remove t n) (returns a) b'
  read-node : {t : List ℤ} {n : ℕ} {a : NodeRead} → ReadNodeCalled b t n a → Step b (lent_node t n) (returns_node a) b
  edge-gap : {t : List ℤ} {e : ℕ} {a : GapAnswer} → GapRead b t e a → Step b (lent_gap t e) (returns_gap a) b
  load-edge-modifier : {t pairs b' : List ℤ} {a : Answer} → ModifierCalled b t pairs b' a → Step b (lent_weights t pairs) (returns a) b'

-- ---- lists of calls

-- a line of a protocol: a call, and what the host got
pub record Exchange : Type 0 where
  pub call : LentCall
  pub got : Returned

-- a list of calls, each from the block that the one before it left
pub data Steps : List ℤ → List Exchange → List ℤ → Type 0 where
  none : {b : List ℤ} → Steps b [] b
  next : {b b₁ b₂ : List ℤ} {k : LentCall} {r : Returned} {xs : List Exchange} → Step b k r b₁ → Steps b₁ xs b₂
      → Steps b (record { call = k; got = r } ∷ xs) b₂

-- Calls of every kind from any block, openings that are accepted among them.
pub data AnySteps : List ℤ → List Exchange → List ℤ → Type 0 where
  no_call : {b : List ℤ} → AnySteps b [] b
  one-call : {b b₁ b₂ : List ℤ} {k : LentCall} {r : Returned} {xs : List Exchange} → Step b k r b₁ → AnySteps b₁ xs b₂
      → AnySteps b (record { call = k; got = r } ∷ xs) b₂
  one-opening : {b b₁ b₂ t edges virtuals : List ℤ} {v e n l : ℕ} {xs : List Exchange} → OpenCalled b t v e n l edges virtuals b₁ 0
      → AnySteps b₁ xs b₂ → AnySteps b (record { call = lent_open t v e n l edges virtuals; got = opening 0 } ∷ xs) b₂
  one-sheet : {b b₁ b₂ t edges sheet virtuals edges' : List ℤ} {v e n l k : ℕ} {xs : List Exchange}
      → SheetCalled b t v e n l edges sheet virtuals edges' b₁ (Opened k) → AnySteps b₁ xs b₂
      → AnySteps b (record { call = lent_sheet t v e n l edges sheet virtuals; got = opening_sheet (Opened k) edges' } ∷ xs) b₂
