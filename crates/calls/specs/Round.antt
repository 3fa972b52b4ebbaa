-- All clusters at once (SPECIFICATION 14): renewal of the active list, a preparation, a length and a growth of every
-- active node. The last three are tried node by node, Shrink nodes first, and leave nothing where one node is refused.
use Rattle.std.specs.Prelude.{ℕ, zero, suc, ◌+◌, Bool, true, false, not, ◌&&◌, ◌||◌, List, [], ◌∷◌, ◌++◌, length, ℤ, pos, negsuc, ◌==◌, nat_le, if◌then◌else◌}
use Rattle.graph.specs.Basic.{fold, all, only}
use Rattle.graph.specs.State.{State, grow_state_of, growing, shrinking, down, up}
use Rattle.graph.specs.Sound.{state_sound}
use Rattle.graph.specs.Active.{renewed, active_in}
use Rattle.answers.specs.Outcome.{Answer}
use Rattle.answers.specs.Outcome.{Length, Done, Node, Prepared, Refused, Vertex}
use Rattle.answers.specs.declared.MaxUpdateLength.TheVariants.{NonZeroGrow, Unlimited, Conflicting, TouchingVirtual, BlossomNeedExpand, VertexShrinkStop, VertexShrinkStopPeer}
use Rattle.answers.specs.Answer.{Reply, says, free_or}
unfoldable pub use Rattle.answers.specs.Answer.{is_free, refusal_of}
use Rattle.answers.specs.declared.MaxUpdateLength.{MaxUpdateLength}
-- what the group answers: the least length that is left, no limit, how many conflicts and how many stops it has listed, or a refusal
pub use Rattle.calls.specs.Group.{GroupMaxUpdateLength as Group}
pub use Rattle.calls.specs.Group.{NonZeroGrow as group_free}
pub use Rattle.calls.specs.Group.{Unlimited as group_unlimited}
pub use Rattle.calls.specs.Group.{Conflicts as group_conflicts}
pub use Rattle.calls.specs.Group.{Refused as group_refused}
use Rattle.update_length.specs.Scan.{lesser, scan}
use Rattle.calls.specs.Refuse.{unless}
use Rattle.calls.specs.Each.{prepare_dual_node_growth, grow_toward, toward}

-- ---- a trial

-- a trial so far: 0 or the number of the refusal met first, and the state
pub record Tried : Type 0 where
  pub refusal : ℕ
  pub state : State

-- the trial that starts from c
abbrev pub begun : State → Tried
begun c = record { refusal = 0; state = c }

-- what a call's reply leaves of a trial
unfoldable pub tried_by : Reply → Tried
tried_by r = record { refusal = refusal_of r.answer; state = r.state }

-- the call f on node n, unless the trial is refused
unfoldable pub try_step : (State → ℕ → Reply) → Tried → ℕ → Tried
try_step f t n = if t.refusal == 0 then tried_by (f t.state n) else t

-- on each node in turn
unfoldable pub try_all : (State → ℕ → Reply) → Tried → List ℕ → Tried
try_all f t ns = fold (try_step f) t ns

unfoldable pub none_of : List ℕ → Bool
none_of [] = true
none_of (n ∷ ns) = false

-- before the first of the nodes ns grows: where nodes ms have moved the state is tested again
unfoldable pub sound_again : List ℕ → List ℕ → Tried → Tried
sound_again ms ns t = if none_of ms || none_of ns || not (t.refusal == 0) || state_sound t.state then t else record { refusal = 2; state = t.state }

-- a trial from the renewed list: f on each Shrink node, then g on each Grow node
unfoldable pub in_turn : (State → ℕ → Reply) → (State → ℕ → Reply) → State → Tried
in_turn f g c =
    let r : State = renewed c in
    try_all g (sound_again (active_in r shrinking) (active_in r growing) (try_all f (begun r) (active_in r shrinking))) (active_in r growing)

-- what a trial answers: its state where no node was refused, and nothing changed where one was
unfoldable pub tried : State → Tried → Answer → Reply
tried c t a = unless t.refusal c (record { answer = a; state = t.state })

-- ---- the calls

unfoldable pub renew_active_list : State → Reply
renew_active_list c = record { answer = Done; state = renewed c }

unfoldable pub preparing : ℕ → State → ℕ → Reply
preparing d c n = prepare_dual_node_growth c n d

unfoldable pub prepared_all : State → Tried
prepared_all c = in_turn (preparing down) (preparing up) c

unfoldable pub prepare_all : State → Reply
prepare_all c = tried c (prepared_all c) Done

unfoldable pub moving : ℕ → ℕ → State → ℕ → Reply
moving d l c n = grow_toward c n d l

unfoldable pub moved_all : ℕ → State → Tried
moved_all l c = in_turn (moving down l) (moving up l) c

-- 14: a length below 1
unfoldable pub round : State → ℤ → Reply
round c (pos zero) = says (Refused 14) c
round c (negsuc l) = says (Refused 14) c
round c (pos (suc l)) = tried c (moved_all (suc l) c) Done

-- ---- the group

-- the answer of each active node, in its direction
unfoldable pub answers_of : State → List ℕ → List Answer
answers_of c [] = []
answers_of c (n ∷ ns) = scan c n (toward (grow_state_of c n)) ∷ answers_of c ns

unfoldable pub first_refusal : List Answer → ℕ
first_refusal [] = 0
first_refusal (a ∷ xs) = if refusal_of a == 0 then first_refusal xs else refusal_of a

-- the node of a pending stop, stored as n + 1; 0 for every other answer
unfoldable pub stop_of_length : MaxUpdateLength → ℕ
stop_of_length (VertexShrinkStop m) = m + 1
stop_of_length (VertexShrinkStopPeer m p g) = m + 1
stop_of_length (NonZeroGrow l e) = 0
stop_of_length (Unlimited e) = 0
stop_of_length (Conflicting p g m h) = 0
stop_of_length (TouchingVirtual m g v) = 0
stop_of_length (BlossomNeedExpand m) = 0

unfoldable pub stop_of : Answer → ℕ
stop_of (Length m) = stop_of_length m
stop_of Done = 0
stop_of (Node m) = 0
stop_of (Prepared k) = 0
stop_of (Vertex v) = 0
stop_of (Refused k) = 0

unfoldable pub is_conflict : Answer → Bool
is_conflict a = not (is_free a) && stop_of a == 0 && refusal_of a == 0

-- a length k and whether a boundary is empty, after the others
unfoldable pub join_length : Group → ℤ → Bool → Group
join_length (group_free l e) k f = group_free (lesser l k) (e || f)
join_length (group_unlimited e) k f = group_free k (e || f)
join_length (group_conflicts a b) k f = group_conflicts a b
join_length (group_refused r) k f = group_refused r

unfoldable pub join_unlimited : Group → Bool → Group
join_unlimited (group_free l e) f = group_free l (e || f)
join_unlimited (group_unlimited e) f = group_unlimited (e || f)
join_unlimited (group_conflicts a b) f = group_conflicts a b
join_unlimited (group_refused r) f = group_refused r

-- a free answer after the others
unfoldable pub join_free : Group → Answer → Group
join_free g a = free_or g (λ k f. join_length g k f) (λ f. join_unlimited g f) a

-- stops by rising node number: a is put before the first of a greater number
unfoldable pub put_stop : Answer → List Answer → List Answer
put_stop a [] = a ∷ []
put_stop a (b ∷ bs) = if nat_le (stop_of a) (stop_of b) then a ∷ b ∷ bs else b ∷ put_stop a bs

unfoldable pub stops_of : List Answer → List Answer
stops_of [] = []
stops_of (a ∷ xs) = if stop_of a == 0 then stops_of xs else put_stop a (stops_of xs)

unfoldable pub conflicts_of : List Answer → List Answer
conflicts_of xs = only is_conflict xs

-- of answers without a refusal: all free, or what is listed
unfoldable pub group_of : List Answer → Group
group_of xs = if all is_free xs then fold join_free (group_unlimited false) xs else group_conflicts (length (conflicts_of xs)) (length (stops_of xs))

-- what the group lists: nothing where all are free; else conflicts as met, then stops
unfoldable pub listed_by : List Answer → List Answer
listed_by xs = if all is_free xs then [] else conflicts_of xs ++ stops_of xs

-- the group's answer is a refusal
unfoldable pub is_refused : Group → Bool
is_refused (group_free l e) = false
is_refused (group_unlimited e) = false
is_refused (group_conflicts a b) = false
is_refused (group_refused k) = true

-- the answer, what is listed, and the state
pub record GroupReply : Type 0 where
  pub group : Group
  pub listed : List Answer
  pub state : State

unfoldable pub group_refusal : Tried → ℕ
group_refusal t = if t.refusal == 0 then first_refusal (answers_of t.state t.state.active) else t.refusal

unfoldable pub group_length : State → GroupReply
group_length c =
    let t : Tried = prepared_all c in
    let xs : List Answer = answers_of t.state t.state.active in
    if group_refusal t == 0 then record { group = group_of xs; listed = listed_by xs; state = t.state }
    else record { group = group_refused (group_refusal t); listed = []; state = c }
