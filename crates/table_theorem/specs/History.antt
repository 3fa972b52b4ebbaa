-- The history of a list of calls, or its book (SPECIFICATION 11.1): each node's vertex, grow state and dual variable,
-- told by the calls and by the answers of the definitions alone. The growth table of a state never enters it.
use Rattle.std.specs.Prelude.{ℕ, suc, Bool, true, false, ◌&&◌, not, List, [], ◌∷◌, ◌++◌, map, ℤ, pos, negsuc, neg_ℤ, ◌+ℤ◌, eqb, get_or, set, if◌then◌else◌}
use Rattle.graph.specs.Basic.{below}
use Rattle.graph.specs.State.{State, stay, growing, shrinking}
use Rattle.calls.specs.Insert.{insert_defect, insert_blossom}
use Rattle.calls.specs.Calls.{set_grow_state, max_update_length, grow_dual_node, signed_for, toward, advance, clear, Call, InsertDefect, InsertBlossom, SetGrowState, Prepare, UpdateLength, Grow, ReadTable, Advance, Contacts, RepresentativeVertex, Clear, RenewActiveList, PrepareAll, GroupLength, Round, RemoveBlossom, LoadEdgeModifier, respond}
use Rattle.graph.specs.Active.{renewed, active_in}
use Rattle.calls.specs.Round.{round}
use Rattle.table_theorem.specs.Answers.{accepted, is_done, limit_of}

-- what is kept of a node; y is a signed number, for nothing here says that it stays above 0
pub record Entry : Type 0 where
  pub vertex : ℕ
  pub grow_state : ℕ
  pub y : ℤ

-- entry n is node n
abbrev pub History : Type 0
History = List Entry

-- what is read where there is no node
abbrev pub no_entry : Entry
no_entry = record { vertex = 0; grow_state = 0; y = pos 0 }

abbrev pub entry_at : History → ℕ → Entry
entry_at h n = get_or h n no_entry

-- ---- one call

unfoldable pub with_node_state : History → ℕ → ℕ → History
with_node_state h n x = set h n (record { vertex = (entry_at h n).vertex; grow_state = x; y = (entry_at h n).y })

unfoldable pub with_added : History → ℕ → ℤ → History
with_added h n l = set h n (record { vertex = (entry_at h n).vertex; grow_state = (entry_at h n).grow_state; y = (entry_at h n).y +ℤ l })

-- what advance adds for a node of grow state x: nothing for Stay; else the limit that a length answers, asked just before, preparing first
-- and in the direction of x, and negative for Shrink
unfoldable pub advance_length : State → ℕ → ℕ → ℤ
advance_length c n x = if eqb x stay then pos 0 else signed_for x (limit_of (max_update_length c n (toward x) true).answer)

-- what a round of length l adds for a node of grow state x
unfoldable pub round_length : ℕ → ℤ → ℤ
round_length x l = if eqb x growing then l else if eqb x shrinking then neg_ℤ l else pos 0

unfoldable pub with_round : ℤ → Entry → Entry
with_round l e = record { vertex = e.vertex; grow_state = e.grow_state; y = e.y +ℤ round_length e.grow_state l }

-- the history h after a call on the state c
unfoldable pub recorded : State → History → Call → History
-- an accepted defect becomes the next node, with its vertex, its state and y = 0
recorded c h (InsertDefect v x) = if accepted (insert_defect c v x).answer then h ++ (record { vertex = v; grow_state = x; y = pos 0 } ∷ []) else h
-- set state, where it is accepted, changes the state
recorded c h (SetGrowState n x) = if accepted (set_grow_state c n x).answer then with_node_state h n x else h
-- clear, where it is accepted, leaves nothing
recorded c h Clear = if accepted (clear c).answer then [] else h
-- growth that is answered done adds its length to y
recorded c h (Grow n l) = if is_done (grow_dual_node c n l).answer then with_added h n l else h
-- so does an advance that is answered done; its direction is the state in the history
recorded c h (Advance n) = if is_done (advance c n).answer then with_added h n (advance_length c n (entry_at h n).grow_state) else h
-- a round that is answered done adds its length to y for every Grow node and takes it from y for every Shrink node: its growths, one
-- by one (Theorems: a-round-is-its-growths)
recorded c h (Round l) = if is_done (round c l).answer then map (with_round l) h else h
-- no other call changes it
recorded c h (InsertBlossom x circle) = h
recorded c h (Prepare n d) = h
recorded c h (UpdateLength n d first) = h
recorded c h ReadTable = h
recorded c h Contacts = h
recorded c h (RepresentativeVertex n) = h
recorded c h RenewActiveList = h
recorded c h PrepareAll = h
recorded c h GroupLength = h
recorded c h (RemoveBlossom n) = h
recorded c h (LoadEdgeModifier pairs) = h

-- ---- a list of calls

-- the history after the calls, from state c and history h
unfoldable pub history_from : State → History → List Call → History
history_from c h [] = h
history_from c h (k ∷ ks) = history_from (respond c k).state (recorded c h k) ks

-- it starts empty
abbrev pub history_after : State → List Call → History
history_after c ks = history_from c [] ks

-- the call is no blossom that is accepted
unfoldable pub no_blossom : State → Call → Bool
no_blossom c (InsertBlossom x circle) = not (accepted (insert_blossom c x circle).answer)
no_blossom c (InsertDefect v x) = true
no_blossom c (SetGrowState n x) = true
no_blossom c (Prepare n d) = true
no_blossom c (UpdateLength n d first) = true
no_blossom c (Grow n l) = true
no_blossom c ReadTable = true
no_blossom c (Advance n) = true
no_blossom c Contacts = true
no_blossom c (RepresentativeVertex n) = true
no_blossom c Clear = true
no_blossom c RenewActiveList = true
no_blossom c PrepareAll = true
no_blossom c GroupLength = true
no_blossom c (Round l) = true
no_blossom c (RemoveBlossom n) = true
no_blossom c (LoadEdgeModifier pairs) = true

-- the call is a change of weights, accepted or not
unfoldable pub changes_weights : Call → Bool
changes_weights (LoadEdgeModifier pairs) = true
changes_weights Clear = false
changes_weights (InsertDefect v x) = false
changes_weights (InsertBlossom x circle) = false
changes_weights (SetGrowState n x) = false
changes_weights (Prepare n d) = false
changes_weights (UpdateLength n d first) = false
changes_weights (Grow n l) = false
changes_weights ReadTable = false
changes_weights (Advance n) = false
changes_weights Contacts = false
changes_weights (RepresentativeVertex n) = false
changes_weights RenewActiveList = false
changes_weights PrepareAll = false
changes_weights GroupLength = false
changes_weights (Round l) = false
changes_weights (RemoveBlossom n) = false

-- no blossom is accepted along the list
unfoldable pub no_blossoms : State → List Call → Bool
no_blossoms c [] = true
no_blossoms c (k ∷ ks) = no_blossom c k && no_blossoms (respond c k).state ks

-- the growths of a round of length l + 1: of each Shrink node of the renewed list, then of each Grow node
abbrev pub growths_of : State → ℕ → List Call
growths_of c l =
    RenewActiveList
    ∷
    (map (λ n. Grow n (negsuc l)) (active_in (renewed c) shrinking)
    ++ map (λ n. Grow n (pos (suc l))) (active_in (renewed c) growing))

-- ---- the dual variables of the vertices

-- that of vertex a: the y of its node, or 0
unfoldable pub dual_at : History → ℕ → ℤ
dual_at [] a = pos 0
dual_at (e ∷ es) a = if eqb e.vertex a then e.y else dual_at es a

unfoldable pub natural : ℤ → ℕ
natural (pos n) = n
natural (negsuc n) = 0

-- those of the v vertices, as natural numbers (nodes-are-recorded in Theorems: none is below 0)
unfoldable pub duals_of : ℕ → History → List ℕ
duals_of v h = map (λ a. natural (dual_at h a)) (below v)
