-- Lists of calls of the functions that are exported for C (crate `c_api`), each by what its contract promises.
use Rattle.std.specs.Prelude.{ℕ, ◌≤◌, ◌≡◌, Bool, true, List, [], ◌∷◌, ◌++◌, map, ℤ, pos, leb, length, drop, get_or, if◌then◌else◌}
use Rattle.graph.specs.State.{State}
use Rattle.graph.specs.Open.{Edge, opened}
use Rattle.graph.specs.Opening.{edges_from, virtuals_from}
use Rattle.calls.specs.Calls.{Call}
use Rattle.c_api.specs.Words.{answer_numbers, open_numbers, count_numbers, short_list, short_count}
use Rattle.c_api.specs.Told.{OpenTold, DefectTold, BlossomTold, StateTold, PrepareTold, LengthTold, GrowTold, AdvanceTold, ClearTold, VertexTold, TableTold, ContactsTold}
use Rattle.reachable.specs.Reachable.{after}
use Rattle.table_theorem.specs.History.{History, history_after, no_blossoms}
use Rattle.table_claim.specs.Lent.{LentCall, lent_open, lent_defect, lent_blossom, lent_state, lent_prepare, lent_length, lent_grow, lent_table, lent_advance, lent_contacts, lent_vertex, lent_clear, Returned, opening, returns, returns_list, returns_count, lent_sheet, opening_sheet, lent_renew, lent_prepare_all, lent_group, lent_round, lent_remove, returns_group, lent_node, returns_node, lent_gap, returns_gap, lent_weights}
use Rattle.c_api_sheet.specs.Told.{sheet_numbers, SheetTold}
use Rattle.c_api_round.specs.Told.{group_numbers, RenewTold, PrepareAllTold, RoundTold, GroupTold}
use Rattle.c_api_remove.specs.Told.{RemoveTold}
use Rattle.c_api_node.specs.Told.{read_node_numbers, ReadNodeTold}
use Rattle.c_api_gap.specs.Told.{gap_numbers, GapTold}
use Rattle.c_api_modifier.specs.Told.{ModifierTold}
use Rattle.graph.specs.Layout.{state_of}
use Rattle.opened_graph.specs.OpenedGraph.{with_weights}
use Rattle.table_claim.specs.Run.{Sizes, fed_one, fed, returned}

-- the list says done: it has room for an answer, and in front the number of that case, 7
pub record SaysDone (list list' : List ℕ) : Type 0 where
  pub room : 5 ≤ length list
  pub first-is : get_or list' 0 0 ≡ 7

-- of an opening from a sheet: the number of the case opened, 12
pub record SaysOpened (list list' : List ℕ) : Type 0 where
  pub room : 5 ≤ length list
  pub first-is : get_or list' 0 0 ≡ 12

-- ---- lists of calls

-- what the host has then: the list that was lent for the answer, how many numbers of it were told, and the other list that was lent, if any
pub record Reported : Type 0 where
  pub told : List ℕ
  pub count : ℕ
  pub words : List ℤ

-- From the block b a call leads to the block b', by what the exported function promises. An opening among the calls is one that does not say
-- done, or from a sheet one that does not say opened.
pub data HostStep (b : List ℤ) : LentCall → List ℕ → Reported → List ℤ → Type 0 where
  fb-open : {t edges virtuals b' : List ℤ} {v e n l k : ℕ} {list list' : List ℕ}
      → OpenTold b t v e n l edges virtuals b' list list' k → (SaysDone list list' → ⊥)
      → HostStep b (lent_open t v e n l edges virtuals) list (record { told = list'; count = k; words = [] }) b'
  fb-insert-defect : {t b' t' : List ℤ} {v x k : ℕ} {list list' : List ℕ} → DefectTold b t v x b' t' list list' k
      → HostStep b (lent_defect t v x) list (record { told = list'; count = k; words = [] }) b'
  fb-insert-blossom : {t circle b' t' : List ℤ} {x k : ℕ} {list list' : List ℕ} → BlossomTold b t x circle b' t' list list' k
      → HostStep b (lent_blossom t x circle) list (record { told = list'; count = k; words = [] }) b'
  fb-set-grow-state : {t b' : List ℤ} {n x k : ℕ} {list list' : List ℕ} → StateTold b t n x b' list list' k
      → HostStep b (lent_state t n x) list (record { told = list'; count = k; words = [] }) b'
  fb-prepare : {t b' t' : List ℤ} {n d k : ℕ} {list list' : List ℕ} → PrepareTold b t n d b' t' list list' k
      → HostStep b (lent_prepare t n d) list (record { told = list'; count = k; words = [] }) b'
  fb-max-update-length : {t b' t' : List ℤ} {n d k : ℕ} {first : Bool} {list list' : List ℕ} → LengthTold b t n d first b' t' list list' k
      → HostStep b (lent_length t n d first) list (record { told = list'; count = k; words = [] }) b'
  fb-grow : {t b' t' : List ℤ} {n k : ℕ} {l : ℤ} {list list' : List ℕ} → GrowTold b t n l b' t' list list' k
      → HostStep b (lent_grow t n l) list (record { told = list'; count = k; words = [] }) b'
  fb-advance : {t b' t' : List ℤ} {n k : ℕ} {list list' : List ℕ} → AdvanceTold b t n b' t' list list' k
      → HostStep b (lent_advance t n) list (record { told = list'; count = k; words = [] }) b'
  fb-clear : {t b' : List ℤ} {k : ℕ} {list list' : List ℕ} → ClearTold b t b' list list' k
      → HostStep b (lent_clear t) list (record { told = list'; count = k; words = [] }) b'
  fb-representative-vertex : {t : List ℤ} {n k : ℕ} {list list' : List ℕ} → VertexTold b t n list list' k
      → HostStep b (lent_vertex t n) list (record { told = list'; count = k; words = [] }) b
  fb-read-table : {t words words' : List ℤ} {k : ℕ} {list list' : List ℕ} → TableTold b t words words' list list' k
      → HostStep b (lent_table t words) list (record { told = list'; count = k; words = words' }) b
  fb-contacts : {t words words' : List ℤ} {k : ℕ} {list list' : List ℕ} → ContactsTold b t words words' list list' k
      → HostStep b (lent_contacts t words) list (record { told = list'; count = k; words = words' }) b
  fb-open-sheet : {t edges sheet virtuals edges' b' : List ℤ} {v e n l k : ℕ} {list list' : List ℕ}
      → SheetTold b t v e n l edges sheet virtuals edges' b' list list' k → (SaysOpened list list' → ⊥)
      → HostStep b (lent_sheet t v e n l edges sheet virtuals) list (record { told = list'; count = k; words = edges' }) b'
  fb-renew-active-list : {b' : List ℤ} {k : ℕ} {list list' : List ℕ} → RenewTold b b' list list' k
      → HostStep b lent_renew list (record { told = list'; count = k; words = [] }) b'
  fb-prepare-all : {s t b' s' t' : List ℤ} {k : ℕ} {list list' : List ℕ} → PrepareAllTold b s t b' s' t' list list' k
      → HostStep b (lent_prepare_all s t) list (record { told = list'; count = k; words = [] }) b'
  fb-grow-all : {s t b' s' t' : List ℤ} {l : ℤ} {k : ℕ} {list list' : List ℕ} → RoundTold b s t l b' s' t' list list' k
      → HostStep b (lent_round s t l) list (record { told = list'; count = k; words = [] }) b'
  fb-remove-blossom : {t b' t' : List ℤ} {n k : ℕ} {list list' : List ℕ} → RemoveTold b t n b' t' list list' k
      → HostStep b (lent_remove t n) list (record { told = list'; count = k; words = [] }) b'
  fb-read-node : {t : List ℤ} {n k : ℕ} {list list' : List ℕ} → ReadNodeTold b t n list list' k
      → HostStep b (lent_node t n) list (record { told = list'; count = k; words = [] }) b
  fb-gap : {t : List ℤ} {e k : ℕ} {list list' : List ℕ} → GapTold b t e list list' k
      → HostStep b (lent_gap t e) list (record { told = list'; count = k; words = [] }) b
  fb-load-edge-modifier : {t pairs b' : List ℤ} {k : ℕ} {list list' : List ℕ} → ModifierTold b t pairs b' list list' k
      → HostStep b (lent_weights t pairs) list (record { told = list'; count = k; words = [] }) b'
  -- the entries are numbers, told as words
  fb-group-max-update-length : {s t b' s' t' : List ℤ} {entries entries' : List ℕ} {k : ℕ} {list list' : List ℕ}
      → GroupTold b s t entries b' s' t' entries' list list' k
      → HostStep b (lent_group s t entries) list (record { told = list'; count = k; words = map pos entries' }) b'

-- a line of a protocol: a call, the list that is lent for its answer, and what the host had then
pub record HostExchange : Type 0 where
  pub call : LentCall
  pub list : List ℕ
  pub got : Reported

-- a list of calls, each from the block that the one before it left
pub data HostSteps : List ℤ → List HostExchange → List ℤ → Type 0 where
  no_more : {b : List ℤ} → HostSteps b [] b
  one_more : {b b₁ b₂ : List ℤ} {k : LentCall} {list : List ℕ} {g : Reported} {xs : List HostExchange} → HostStep b k list g b₁ → HostSteps b₁ xs b₂
      → HostSteps b (record { call = k; list = list; got = g } ∷ xs) b₂

-- ---- what the definitions say of them

-- a list of five numbers has room for every answer
abbrev pub has_room : List ℕ → Bool
has_room list = leb 5 (length list)

-- the calls that are made: those with room for their answer
unfoldable pub made : List HostExchange → List LentCall
made [] = []
made (x ∷ xs) = if has_room x.list then x.call ∷ made xs else made xs

-- what a call returns, in numbers
unfoldable pub numbers_in : Returned → List ℕ
numbers_in (opening k) = open_numbers k
numbers_in (returns a) = answer_numbers a
numbers_in (returns_list a words) = answer_numbers a
numbers_in (returns_count a k words) = count_numbers a k
numbers_in (returns_group g entries) = group_numbers g
numbers_in (returns_node a) = read_node_numbers a
numbers_in (returns_gap a) = gap_numbers a
numbers_in (opening_sheet a edges) = sheet_numbers a

-- and the words of the list that was lent to it, if any
unfoldable pub words_in : Returned → List ℤ
words_in (opening k) = []
words_in (returns a) = []
words_in (returns_list a words) = words
words_in (returns_count a k words) = words
words_in (returns_group g entries) = map pos entries
words_in (returns_node a) = []
words_in (returns_gap a) = []
words_in (opening_sheet a edges) = edges

-- the words of that list before the call
unfoldable pub lent_words : LentCall → List ℤ
lent_words (lent_table t words) = words
lent_words (lent_contacts t words) = words
lent_words (lent_open t v e n l edges virtuals) = []
lent_words (lent_defect t v x) = []
lent_words (lent_blossom t x circle) = []
lent_words (lent_state t n x) = []
lent_words (lent_prepare t n d) = []
lent_words (lent_length t n d first) = []
lent_words (lent_grow t n l) = []
lent_words (lent_advance t n) = []
lent_words (lent_vertex t n) = []
lent_words (lent_clear t) = []
lent_words (lent_sheet t v e n l edges sheet virtuals) = edges
lent_words lent_renew = []
lent_words (lent_prepare_all s t) = []
lent_words (lent_group s t entries) = map pos entries
lent_words (lent_round s t l) = []
lent_words (lent_remove t n) = []
lent_words (lent_node t n) = []
lent_words (lent_gap t e) = []
lent_words (lent_weights t pairs) = []

-- what the host has after a call in state c: the answer of the definitions, or what a list without room for it is told
unfoldable pub reported : Sizes → State → LentCall → List ℕ → Reported
reported z c k list =
    if has_room list
    then record {
      told = numbers_in (returned z c k) ++ drop (length (numbers_in (returned z c k))) list;
      count = length (numbers_in (returned z c k));
      words = words_in (returned z c k);
    }
    else record { told = short_list list; count = short_count list; words = lent_words k }

-- after each call in turn, from state c on
unfoldable pub reported_from : Sizes → State → List HostExchange → List Reported
reported_from z c [] = []
reported_from z c (x ∷ xs) = reported z c x.call x.list ∷ reported_from z (after c (if has_room x.list then fed_one z x.call else [])) xs

-- To one graph: an opening by fb_open that says done, of any block and scratch and with any weights, N and L, and a list of calls from the block
-- that it leaves. `edges` are the opened ones, each with the weight that stands after the calls.
pub record HostRun (v : ℕ) (edges : List Edge) (virtuals : List ℕ) : Type 0 where
  pub edge_number : ℕ  -- E
  pub node_limit : ℕ  -- N
  pub store_limit : ℕ  -- L
  pub before : List ℤ  -- the block that open is lent
  pub scratch : List ℤ
  pub edge_words : List ℤ
  pub virtual_words : List ℤ
  pub virtuals-are : virtuals_from virtual_words ≡ virtuals
  pub first : List ℤ  -- the opened block
  pub answer : List ℕ
  pub answer' : List ℕ
  pub numbers : ℕ
  pub opening-is : OpenTold before scratch v edge_number node_limit store_limit edge_words virtual_words first answer answer' numbers
  pub done : SaysDone answer answer'
  pub exchanges : List HostExchange
  pub last : List ℤ  -- the block after the calls
  pub steps : HostSteps first exchanges last
  pub present : with_weights (edges_from edge_words) (state_of last).graph.weight ≡ edges

module _ {v : ℕ} {edges : List Edge} {virtuals : List ℕ} (r : HostRun v edges virtuals) where
  abbrev pub host_sizes : Sizes
  host_sizes = record { vertices = v; edges = r.edge_number; nodes = r.node_limit; store = r.store_limit }

  abbrev pub host_start : State
  host_start = opened v r.node_limit r.store_limit (edges_from r.edge_words) virtuals

  -- the calls that the definitions are asked, and their history
  abbrev pub host_calls : List Call
  host_calls = fed host_sizes (made r.exchanges)

  abbrev pub host_history : History
  host_history = history_after host_start host_calls

  -- no blossom is accepted
  abbrev pub BlossomsRefused : Type 0
  BlossomsRefused = no_blossoms host_start host_calls ≡ true
