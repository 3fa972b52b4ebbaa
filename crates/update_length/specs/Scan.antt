-- The length answer on the state as it is.
use Rattle.std.specs.Prelude.{ℕ, ◌+◌, ◌-◌, ◌/◌, min, Bool, true, false, ◌&&◌, not, List, [], ◌∷◌, ℤ, pos, negsuc, neg_ℤ, leb, eqb, if◌then◌else◌}
use Rattle.std.proofs.Math.IntN.{sub_ℕ}
use Rattle.graph.specs.Basic.{fold}
use Rattle.graph.specs.State.{State, Overgrown, NodeClass, defect_vertex, blossom, removed, opposite, end_at, growth_at, holder_at, grandson_at, sides_at, passable, class_of, grow_state_of, dual_of, boundary_of, overgrown_of, grown_over, weight_over, growing, shrinking, up}
use Rattle.answers.specs.Outcome.{Answer}
use Rattle.answers.specs.declared.MaxUpdateLength.{MaxUpdateLength}
use Rattle.answers.specs.Outcome.{Length, Refused}
use Rattle.answers.specs.declared.MaxUpdateLength.TheVariants.{NonZeroGrow, Unlimited, Conflicting, TouchingVirtual, BlossomNeedExpand, VertexShrinkStop, VertexShrinkStopPeer}

-- ---- lengths: signed, because on a state that no call list reaches an edge may have grown past its weight

-- half, dropped toward zero
unfoldable pub half : ℤ → ℤ
half (pos n) = pos (n / 2)
half (negsuc n) = neg_ℤ (pos ((n + 1) / 2))

unfoldable pub is_zero : ℤ → Bool
is_zero (pos n) = eqb n 0
is_zero (negsuc n) = false

unfoldable pub lesser : ℤ → ℤ → ℤ
lesser (pos a) (pos b) = pos (min a b)
lesser (pos a) (negsuc b) = negsuc b
lesser (negsuc a) (pos b) = negsuc a
lesser (negsuc a) (negsuc b) = if leb a b then negsuc b else negsuc a

-- ---- one boundary side

-- what a side says: nothing, a length that is left, or the answer of the scan
pub data Look : Type 0 where
  skip : Look
  room : ℤ → Look
  meets : Answer → Look

-- what is left of the edge of side s
unfoldable pub gap_of : State → ℕ → ℤ
gap_of c s = sub_ℕ (weight_over c s) (grown_over c s)

-- a length to the peer that holds the far side
unfoldable pub look_peer : State → ℕ → ℕ → ℕ → ℤ → Look
look_peer c n s p l = if is_zero l then meets (Length (Conflicting p (grandson_at c (opposite s) - 1) n (grandson_at c s - 1))) else room l

-- a length to a far side that no node holds
unfoldable pub look_free : State → ℕ → ℕ → ℤ → Look
look_free c n s l =
    if not (is_zero l) then room l
    else if passable c (end_at c (opposite s)) then meets (Refused 13)
    else meets (Length (TouchingVirtual n (grandson_at c s - 1) (end_at c (opposite s))))

-- the far side is held by a peer p, that is not n: a Shrink peer is skipped, a Grow peer takes half of the gap
unfoldable pub look_held : State → ℕ → ℕ → ℕ → Look
look_held c n s p =
    if eqb (grow_state_of c p) shrinking then skip
    else look_peer c n s p (if eqb (grow_state_of c p) growing then half (gap_of c s) else gap_of c s)

unfoldable pub look_grow : State → ℕ → ℕ → Look
look_grow c n s =
    if eqb (holder_at c (opposite s)) (n + 1) then skip
    else if eqb (holder_at c (opposite s)) 0 then look_free c n s (gap_of c s)
    else look_held c n s (holder_at c (opposite s) - 1)

unfoldable pub look_shrink : State → ℕ → Look
look_shrink c s = if eqb (growth_at c s) 0 then meets (Refused 13) else room (pos (growth_at c s))

unfoldable pub look : State → ℕ → ℕ → ℕ → Look
look c n d s = if eqb d up then look_grow c n s else look_shrink c s

-- ---- the scan of the boundary

pub data Scan : Type 0 where
  open-ended : Scan  -- no limit so far
  within : ℤ → Scan  -- the smallest length so far
  over : Answer → Scan  -- the scan has met its answer

unfoldable pub with_look : Scan → Look → Scan
with_look (over a) l = over a
with_look open-ended skip = open-ended
with_look open-ended (room x) = within x
with_look open-ended (meets a) = over a
with_look (within b) skip = within b
with_look (within b) (room x) = within (lesser b x)
with_look (within b) (meets a) = over a

unfoldable pub scan_step : State → ℕ → ℕ → Scan → ℕ → Scan
scan_step c n d r s = with_look r (look c n d s)

unfoldable pub is_empty : List ℕ → Bool
is_empty [] = true
is_empty (x ∷ xs) = false

unfoldable pub scan_answer : Bool → Scan → Answer
scan_answer e open-ended = Length (Unlimited e)
scan_answer e (within l) = Length (NonZeroGrow l e)
scan_answer e (over a) = a

-- the scan of the boundary of node n in direction d, from what is known before
unfoldable pub scan_boundary : State → ℕ → ℕ → Scan → Answer
scan_boundary c n d r = scan_answer (is_empty (boundary_of c n)) (fold (scan_step c n d) r (boundary_of c n))

-- ---- a node of dual variable 0 shrinks no further

-- the Grow peers met at a defect's vertex so far
pub data Peers : Type 0 where
  no_peer : Peers
  peer : ℕ → ℕ → Peers  -- a node and its grandson
  two_peers : ℕ → ℕ → ℕ → ℕ → Peers  -- two of them, each with its grandson

-- a side t at the defect's vertex whose edge is full meets the node p that holds the far side, if that is a Grow node
unfoldable pub meets_peer : State → ℕ → Bool
meets_peer c t = eqb (grown_over c t) (weight_over c t) && not (eqb (holder_at c (opposite t)) 0) && eqb (grow_state_of c (holder_at c (opposite t) - 1)) growing

unfoldable pub meet : Peers → ℕ → ℕ → Peers
meet no_peer p g = peer p g
meet (peer q h) p g = if eqb p q then peer q h else two_peers q h p g
meet (two_peers a x b y) p g = two_peers a x b y

unfoldable pub stop_step : State → Peers → ℕ → Peers
stop_step c r t = if meets_peer c t then meet r (holder_at c (opposite t) - 1) (grandson_at c (opposite t) - 1) else r

unfoldable pub stop_with : ℕ → Peers → MaxUpdateLength
stop_with n no_peer = VertexShrinkStop n
stop_with n (peer p g) = VertexShrinkStopPeer n p g
stop_with n (two_peers q h p g) = Conflicting q h p g

unfoldable pub stop_answer : State → ℕ → NodeClass → MaxUpdateLength
stop_answer c n (blossom m) = BlossomNeedExpand n
stop_answer c n removed = BlossomNeedExpand n
stop_answer c n (defect_vertex v) = stop_with n (fold (stop_step c) no_peer (sides_at c v))

-- ---- the answer

-- the smaller of the dual variable and the top overgrown amount, if any
unfoldable pub shrink_limit : ℕ → List Overgrown → ℕ
shrink_limit y [] = y
shrink_limit y (o ∷ os) = min y o.amount

unfoldable pub scan : State → ℕ → ℕ → Answer
scan c n d =
    if eqb d up then scan_boundary c n d open-ended
    else if eqb (dual_of c n) 0 then Length (stop_answer c n (class_of c n))
    else scan_boundary c n d (within (pos (shrink_limit (dual_of c n) (overgrown_of c n))))
