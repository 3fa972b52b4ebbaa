-- A run: an accepted opening and a list of calls. What the definitions give for it, by the calls alone: the state, the answers, the history.
use Rattle.std.specs.Prelude.{ℕ, ◌*◌, ◌%◌, ◌≡◌, refl, Bool, true, ◌&&◌, List, [], ◌∷◌, ◌++◌, map, ℤ, pos, eqb, length, if◌then◌else◌}
use Rattle.graph.specs.State.{State}
use Rattle.graph.specs.Word.{to_nat}
use Rattle.graph.specs.Layout.{block_length, scratch_length, state_of}
use Rattle.graph.specs.Open.{Edge, opened, open_refusal}
use Rattle.graph.specs.Opening.{edges_from, virtuals_from, OpenCalled}
use Rattle.answers.specs.Outcome.{Answer}
use Rattle.answers.specs.Outcome.{Done, Refused}
use Rattle.calls.specs.Reply.{over_front}
use Rattle.calls.specs.Contacts.{contacts, contact_words}
use Rattle.calls.specs.Insert.{insert_defect, insert_blossom}
use Rattle.calls.specs.Calls.{set_grow_state, prepare_dual_node_growth, max_update_length, grow_dual_node, advance, growth_table, representative_vertex, clear, Call, InsertDefect, InsertBlossom, SetGrowState, Prepare, UpdateLength, Grow, ReadTable, Advance, Contacts, RepresentativeVertex, Clear, RenewActiveList, PrepareAll, GroupLength, Round, RemoveBlossom, LoadEdgeModifier}
use Rattle.reachable.specs.Reachable.{after}
use Rattle.table_theorem.specs.Answers.{accepted, is_done}
use Rattle.table_theorem.specs.History.{History, entry_at, with_node_state, with_added, advance_length, history_after, no_blossoms, with_round}
use Rattle.table_claim.specs.Lent.{LentCall, lent_open, lent_defect, lent_blossom, lent_state, lent_prepare, lent_length, lent_grow, lent_table, lent_advance, lent_contacts, lent_vertex, lent_clear, Returned, opening, returns, returns_list, returns_count, Exchange, Steps, lent_sheet, opening_sheet, lent_renew, lent_prepare_all, lent_group, lent_round, lent_remove, returns_group, lent_node, returns_node, lent_gap, returns_gap, lent_weights}
use Rattle.sheet.specs.Outcome.{Opened, Refused as SheetRefused}
use Rattle.sheet.specs.Sheet.{values_from}
use Rattle.sheet.specs.Called.{sheet_refusal, sheet_answer, sheet_edges}
use Rattle.calls.specs.Group.{Refused as group_refused}
use Rattle.calls.specs.Remove.{remove_blossom}
use Rattle.calls.specs.Erasures.{pairs_from, load_edge_modifier}
use Rattle.opened_graph.specs.OpenedGraph.{with_weights}
use Rattle.calls.specs.Round.{renew_active_list, prepare_all, group_length, round}
use Rattle.round_list.specs.Asked.{listed_from}
use Rattle.dual_module_node.specs.Outcome.{Refused as node_refused}
use Rattle.dual_module_node.specs.ReadNode.{read_node}
use Rattle.dual_module_gap.specs.Outcome.{Refused as gap_refused}
use Rattle.dual_module_gap.specs.GapRead.{gap_told}

-- ---- lengths

-- V, E, N and L of an opened block
pub record Sizes : Type 0 where
  pub vertices : ℕ
  pub edges : ℕ
  pub nodes : ℕ
  pub store : ℕ

-- a scratch for these sizes; both a scratch and a list of m words for each edge
abbrev pub scratch_fits : Sizes → List ℤ → Bool
scratch_fits z t = eqb (length t) (scratch_length z.vertices z.edges)

abbrev pub list_fits : Sizes → ℕ → List ℤ → List ℤ → Bool
list_fits z m t list = scratch_fits z t && eqb (length list) (m * z.edges)

-- a scratch and a second block; these and N entries of 5 words
abbrev pub trial_fits : Sizes → List ℤ → List ℤ → Bool
trial_fits z s t = scratch_fits z t && eqb (length s) (block_length z.vertices z.edges z.nodes z.store)

-- a scratch, and a list of pairs
abbrev pub pairs_fit : Sizes → List ℤ → List ℤ → Bool
pairs_fit z t pairs = eqb (length pairs % 2) 0 && scratch_fits z t

abbrev pub group_fits : Sizes → List ℤ → List ℤ → List ℕ → Bool
group_fits z s t entries = trial_fits z s t && eqb (length entries) (5 * z.nodes)

-- ---- what the definitions are asked

abbrev pub calls_of : List Exchange → List LentCall
calls_of xs = map (λ (x : Exchange). x.call) xs

-- the call k, where what is lent has its lengths; otherwise it is refused (1), and none
abbrev pub if_fits : Bool → Call → List Call
if_fits fits k = if fits then k ∷ [] else []

unfoldable pub fed_one : Sizes → LentCall → List Call
fed_one z (lent_open t v e n l edges virtuals) = []
fed_one z (lent_defect t v x) = if_fits (scratch_fits z t) (InsertDefect v x)
fed_one z (lent_blossom t x circle) = if_fits (scratch_fits z t) (InsertBlossom x (map to_nat circle))
fed_one z (lent_state t n x) = if_fits (scratch_fits z t) (SetGrowState n x)
fed_one z (lent_prepare t n d) = if_fits (scratch_fits z t) (Prepare n d)
fed_one z (lent_length t n d first) = if_fits (scratch_fits z t) (UpdateLength n d first)
fed_one z (lent_grow t n l) = if_fits (scratch_fits z t) (Grow n l)
fed_one z (lent_table t list) = if_fits (list_fits z 2 t list) ReadTable
fed_one z (lent_advance t n) = if_fits (scratch_fits z t) (Advance n)
fed_one z (lent_contacts t list) = if_fits (list_fits z 3 t list) Contacts
fed_one z (lent_vertex t n) = if_fits (scratch_fits z t) (RepresentativeVertex n)
fed_one z (lent_clear t) = if_fits (scratch_fits z t) Clear
fed_one z (lent_sheet t v e n l edges sheet virtuals) = []
fed_one z lent_renew = RenewActiveList ∷ []
fed_one z (lent_prepare_all s t) = if_fits (trial_fits z s t) PrepareAll
fed_one z (lent_group s t entries) = if_fits (group_fits z s t entries) GroupLength
fed_one z (lent_round s t l) = if_fits (trial_fits z s t) (Round l)
fed_one z (lent_remove t n) = if_fits (scratch_fits z t) (RemoveBlossom n)
-- a node that is read leaves the state: nothing is asked
fed_one z (lent_node t n) = []
-- a gap is read from the state, which stays
fed_one z (lent_gap t e) = []
fed_one z (lent_weights t pairs) = if_fits (pairs_fit z t pairs) (LoadEdgeModifier (pairs_from pairs))

unfoldable pub fed : Sizes → List LentCall → List Call
fed z [] = []
fed z (k ∷ ks) = fed_one z k ++ fed z ks

-- ---- what the host gets, by the definitions

-- the answer a, or refused 1 for a length
abbrev pub or_refused : Bool → Answer → Answer
or_refused fits a = if fits then a else Refused 1

-- block and scratch have the lengths that an opening of V, E, N, L asks for
abbrev pub open_fits : Sizes → List ℤ → ℕ → ℕ → ℕ → ℕ → Bool
open_fits z t v e n l =
    eqb (block_length z.vertices z.edges z.nodes z.store) (block_length v e n l) && eqb (length t) (scratch_length v e)

-- of a call in state c
unfoldable pub returned : Sizes → State → LentCall → Returned
returned z c (lent_open t v e n l edges virtuals) =
    opening (open_refusal v e n l (edges_from edges) (virtuals_from virtuals) (open_fits z t v e n l))
returned z c (lent_defect t v x) = returns (or_refused (scratch_fits z t) (insert_defect c v x).answer)
returned z c (lent_blossom t x circle) = returns (or_refused (scratch_fits z t) (insert_blossom c x (map to_nat circle)).answer)
returned z c (lent_state t n x) = returns (or_refused (scratch_fits z t) (set_grow_state c n x).answer)
returned z c (lent_prepare t n d) = returns (or_refused (scratch_fits z t) (prepare_dual_node_growth c n d).answer)
returned z c (lent_length t n d first) = returns (or_refused (scratch_fits z t) (max_update_length c n d first).answer)
returned z c (lent_grow t n l) = returns (or_refused (scratch_fits z t) (grow_dual_node c n l).answer)
returned z c (lent_table t list) = returns_list (or_refused (list_fits z 2 t list) Done) (if list_fits z 2 t list then map pos (growth_table c) else list)
returned z c (lent_advance t n) = returns (or_refused (scratch_fits z t) (advance c n).answer)
returned z c (lent_contacts t list) =
    returns_count (or_refused (list_fits z 3 t list) Done)
    (if list_fits z 3 t list then length (contacts c) else 0)
    (if list_fits z 3 t list then over_front (contact_words (contacts c)) list else list)
returned z c (lent_vertex t n) = returns (or_refused (scratch_fits z t) (representative_vertex c n).answer)
returned z c (lent_clear t) = returns (or_refused (scratch_fits z t) (clear c).answer)
returned z c (lent_sheet t v e n l edges sheet virtuals) =
    let k = sheet_refusal v e n l edges sheet virtuals (open_fits z t v e n l) in
    opening_sheet (sheet_answer k (values_from sheet)) (sheet_edges k (values_from sheet) edges)
returned z c lent_renew = returns (renew_active_list c).answer
returned z c (lent_prepare_all s t) = returns (or_refused (trial_fits z s t) (prepare_all c).answer)
returned z c (lent_group s t entries) =
    returns_group (if group_fits z s t entries then (group_length c).group else group_refused 1)
    (if group_fits z s t entries then listed_from 0 (group_length c).listed entries else entries)
returned z c (lent_round s t l) = returns (or_refused (trial_fits z s t) (round c l).answer)
returned z c (lent_remove t n) = returns (or_refused (scratch_fits z t) (remove_blossom c n).answer)
returned z c (lent_node t n) = returns_node (if scratch_fits z t then read_node c n else node_refused 1)
returned z c (lent_gap t e) = returns_gap (if scratch_fits z t then gap_told c e else gap_refused 1)
returned z c (lent_weights t pairs) = returns (or_refused (pairs_fit z t pairs) (load_edge_modifier c (pairs_from pairs)).answer)

-- of each call in turn, from state c on
unfoldable pub returned_from : Sizes → State → List LentCall → List Returned
returned_from z c [] = []
returned_from z c (k ∷ ks) = returned z c k ∷ returned_from z (after c (fed_one z k)) ks

-- ---- the history, by what the host got

-- the answer in it
unfoldable pub answer_in : Returned → Answer
answer_in (opening k) = if eqb k 0 then Done else Refused k
answer_in (returns a) = a
answer_in (returns_list a list) = a
answer_in (returns_count a k list) = a
-- the group, a node that is read and a gap have answers of their own; the history asks for none of them
answer_in (returns_group g entries) = Done
answer_in (returns_node a) = Done
answer_in (returns_gap a) = Done
answer_in (opening_sheet (Opened k) edges) = Done
answer_in (opening_sheet (SheetRefused k) edges) = Refused k

-- The history h after a call that was answered a in state c. Of the state only an advance is asked for: how far it went is in no answer.
unfoldable pub recorded_by : State → History → LentCall → Answer → History
recorded_by c h (lent_defect t v x) a = if accepted a then h ++ (record { vertex = v; grow_state = x; y = pos 0 } ∷ []) else h
recorded_by c h (lent_state t n x) a = if accepted a then with_node_state h n x else h
recorded_by c h (lent_grow t n l) a = if is_done a then with_added h n l else h
recorded_by c h (lent_advance t n) a = if is_done a then with_added h n (advance_length c n (entry_at h n).grow_state) else h
recorded_by c h (lent_clear t) a = if accepted a then [] else h
recorded_by c h (lent_open t v e n l edges virtuals) a = h
recorded_by c h (lent_blossom t x circle) a = h
recorded_by c h (lent_prepare t n d) a = h
recorded_by c h (lent_length t n d first) a = h
recorded_by c h (lent_table t list) a = h
recorded_by c h (lent_contacts t list) a = h
recorded_by c h (lent_vertex t n) a = h
recorded_by c h (lent_sheet t v e n l edges sheet virtuals) a = h
recorded_by c h lent_renew a = h
recorded_by c h (lent_prepare_all s t) a = h
recorded_by c h (lent_group s t entries) a = h
recorded_by c h (lent_remove t n) a = h
recorded_by c h (lent_node t n) a = h
recorded_by c h (lent_gap t e) a = h
recorded_by c h (lent_weights t pairs) a = h
recorded_by c h (lent_round s t l) a = if is_done a then map (with_round l) h else h

-- line by line, from state c and history h on
unfoldable pub history_by : Sizes → State → History → List Exchange → History
history_by z c h [] = h
history_by z c h (x ∷ xs) = history_by z (after c (fed_one z x.call)) (recorded_by c h x.call (answer_in x.got)) xs

-- ---- from an opening on

-- To one graph: an opening that is accepted, of any block and scratch and with any weights, N and L, and a list of calls from the block that it
-- leaves. `edges` are the opened ones, each with the weight that stands after the calls.
pub record LentRun (v : ℕ) (edges : List Edge) (virtuals : List ℕ) : Type 0 where
  pub edge_number : ℕ  -- E
  pub node_limit : ℕ  -- N
  pub store_limit : ℕ  -- L
  pub before : List ℤ  -- the block that open is lent
  pub scratch : List ℤ
  pub edge_words : List ℤ
  pub virtual_words : List ℤ
  pub virtuals-are : virtuals_from virtual_words ≡ virtuals
  pub first : List ℤ  -- the opened block
  pub opening-is : OpenCalled before scratch v edge_number node_limit store_limit edge_words virtual_words first 0
  pub exchanges : List Exchange
  pub last : List ℤ  -- the block after the calls
  pub steps : Steps first exchanges last
  pub present : with_weights (edges_from edge_words) (state_of last).graph.weight ≡ edges

module _ {v : ℕ} {edges : List Edge} {virtuals : List ℕ} (r : LentRun v edges virtuals) where
  abbrev pub run_sizes : Sizes
  run_sizes = record { vertices = v; edges = r.edge_number; nodes = r.node_limit; store = r.store_limit }

  -- the opened state, and the calls that the definitions are asked
  abbrev pub run_start : State
  run_start = opened v r.node_limit r.store_limit (edges_from r.edge_words) virtuals

  abbrev pub run_calls : List Call
  run_calls = fed run_sizes (calls_of r.exchanges)

  -- the history of the calls: it sees neither block nor table
  abbrev pub lent_history : History
  lent_history = history_after run_start run_calls

  -- no blossom is accepted
  abbrev pub WithoutBlossoms : Type 0
  WithoutBlossoms = no_blossoms run_start run_calls ≡ true

-- The run of an opening that was accepted and of the steps behind it, which leave `standing`.
abbrev pub lent_run_from : (b t : List ℤ) (v e n l : ℕ) (edges virtuals : List ℤ) {b₁ b₂ : List ℤ} {xs : List Exchange}
    → OpenCalled b t v e n l edges virtuals b₁ 0 → Steps b₁ xs b₂
    → {standing : List Edge} → with_weights (edges_from edges) (state_of b₂).graph.weight ≡ standing → LentRun v standing (virtuals_from virtuals)
lent_run_from b t v e n l edges virtuals {b₁} {b₂} {xs} p q w = record {
  edge_number = e;
  node_limit = n;
  store_limit = l;
  before = b;
  scratch = t;
  edge_words = edges;
  virtual_words = virtuals;
  virtuals-are = refl;
  first = b₁;
  opening-is = p;
  exchanges = xs;
  last = b₂;
  steps = q;
  present = w;
}

-- The exchange that a run begins with: its opening, or one from a sheet that left the words of its edges.
pub data Begins {v : ℕ} {edges : List Edge} {virtuals : List ℕ} (r : LentRun v edges virtuals) : Exchange → Type 0 where
  with_open : Begins r (record {
    call = lent_open r.scratch v r.edge_number r.node_limit r.store_limit r.edge_words r.virtual_words;
    got = opening 0;
  })
  with-sheet : {words sheet : List ℤ} {k : ℕ} → Begins r (record {
    call = lent_sheet r.scratch v r.edge_number r.node_limit r.store_limit words sheet r.virtual_words;
    got = opening_sheet (Opened k) r.edge_words;
  })

-- Of the exchanges xs that led to the block b, those since the last opening that was accepted are a run.
pub record SinceOpening (xs : List Exchange) (b : List ℤ) : Type 0 where
  pub v : ℕ
  pub edges : List Edge
  pub virtuals : List ℕ
  pub run : LentRun v edges virtuals
  pub earlier : List Exchange
  pub begin : Exchange
  pub begins : Begins run begin
  pub all : xs ≡ earlier ++ (begin ∷ run.exchanges)
  pub leads : run.last ≡ b
