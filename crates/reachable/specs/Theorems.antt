-- What is proved of reachable states and of preparation; each proof cites a law.
use Rattle.std.specs.Prelude.{ℕ, suc, ◌+◌, ◌≤◌, ◌<◌, ◌≡◌, ◌≢◌, ◌⊎◌, Bool, true, false, List, [], ◌∷◌, ℤ, pos, length}
use Rattle.std.proofs.Common.{◌∙◌}
use Rattle.graph.specs.Basic.{member, distinct}
use Rattle.graph.specs.State.{State, removed, opposite, vertex_count, side_count, node_count, end_at, sides_at, growth_at, holder_at, vertex_holder_at, defect_at, virtual_at, parent_of, class_of, grow_state_of, dual_of, boundary_of, overgrown_of, grown_over, weight_over, stay, down, edge_count}
use Rattle.graph.specs.Open.{Edge, opened, open_refusal}
use Rattle.graph.specs.Sound.{entries, sound, state_sound}
use Rattle.graph.specs.laws.Shape.{sound-entries, sound-active}
use Rattle.graph.specs.Shape.{Shape}
use Rattle.graph.specs.laws.Active.{active-once}
use Rattle.gap.specs.declared.Gap.TheVariants.{Over}
use Rattle.gap.specs.Gap.{edge_gap}
use Rattle.reachable.specs.laws.Gap.{over-never}
use Rattle.pass.specs.Prepare.{prepare_node}
use Rattle.answers.specs.Outcome.{Done, Refused}
use Rattle.answers.specs.Answer.{says}
use Rattle.update_length.specs.laws.Long.{long_as}
use Rattle.calls.specs.Insert.{occupied, defect_refusal}
use Rattle.calls.specs.Occupied.{vertex_decides, sides_read}
use Rattle.calls.proofs.Theorems.{none_read, all_read}
use Rattle.calls.proofs.laws.Occupied.{accepted-vacant, refused-occupied}
use Rattle.calls.specs.Calls.{Call, max_update_length, advance, response, respond}
use Rattle.calls.specs.Round.{prepare_all, round, group_length}
use Rattle.calls.specs.Group.{NonZeroGrow as group_free, Refused as group_refused}
use Rattle.calls.specs.Remove.{is_blossom, remove_refusal, remove_blossom}
use Rattle.calls.proofs.laws.RemoveCall.{remove-keeps}
use Rattle.reachable.specs.laws.state.Live.{invariant-sound}
use Rattle.reachable.specs.laws.remove.Answer.{opening-member, opening-removed, opening-done, opening-back, opening-refused-15}
use Rattle.reachable.specs.laws.remove.Named.{named-refused}
use Rattle.reachable.specs.laws.remove.Stays.{stays-removed}
use Rattle.reachable.specs.Reachable.{after, Reachable}
use Rattle.reachable.specs.Passes.{Ends}
use Rattle.reachable.specs.Opening.{log_of, MemberOutermost, NumberRemoved, GivesBack, names, is_clear}
use Rattle.reachable.specs.Invariant.{BoundaryHeld}
use Rattle.reachable.specs.laws.prepare.Ends.{prepare-ends, prepare-passes}
use Rattle.reachable.specs.laws.past.Calls.{opened-past, after-past, reachable-past, reachable-invariant}
use Rattle.reachable.specs.laws.Length.{length-refusal, advance-refusal, not-thirteen}
use Rattle.reachable.specs.laws.Active.{active-outer}
use Rattle.reachable.specs.laws.GroupAnswer.{group-refused-nine, group-positive}
use Rattle.reachable.specs.laws.Refused.{prepare-all-refused, round-refused, by-group-refused}
use Rattle.reachable.specs.laws.Facts.{free-together, same-growth, prepared-held, prepared-grown}
use Rattle.reachable.specs.laws.Occupied.{decides-alone}

-- ---- soundness

-- whatever calls follow an accepted opening, the state that they reach is sound: every stored number in range, nothing held or listed by a
-- node that was removed
pub reachable-sound : (c : State) → Reachable c → state_sound c ≡ true
reachable-sound c r = invariant-sound (reachable-invariant c r)

-- the same of an accepted opening and a list of calls: any graph and weights, 0 among them; any calls, blossoms, their openings and refused
-- calls among them
pub calls-sound : (v e n l : ℕ) (edges : List Edge) (virtuals : List ℕ) (fits : Bool) → open_refusal v e n l edges virtuals fits ≡ 0
    → (ks : List Call) → state_sound (after (opened v n l edges virtuals) ks) ≡ true
calls-sound v e n l edges virtuals fits h ks =
    invariant-sound
    (after-past (opened v n l edges virtuals) (opened-past {log = λ i. opened v n l edges virtuals} v e n l edges virtuals fits h) ks).invariant

-- ---- preparation, on every sound state

-- preparation ends: the last pass calls for no other, and every pass before it calls for another (Shape: the lists have the lengths that
-- V, E and the nodes fix, as those of every block have)
pub preparation-ends : (c : State) → Shape c → 1 ≤ vertex_count c → sound c ≡ true → (n d : ℕ) → Ends c n d 0 (prepare_node c n d)
preparation-ends = prepare-ends

-- there are at most V + 1 passes
pub preparation-passes : (c : State) (n d : ℕ) → (prepare_node c n d).passes ≤ vertex_count c + 1
preparation-passes = prepare-passes

-- ---- opening a blossom

-- on every state: opening, refused or not, leaves the growth of every side
pub opening-growth : (c : State) (n : ℕ) → (remove_blossom c n).state.sides.growth ≡ c.sides.growth
opening-growth c n = (remove-keeps c n).growth

-- on every state: a call that names a removed node is refused 3 and changes nothing
pub removed-refused-3 : (c : State) (n : ℕ) → class_of c n ≡ removed → (k : Call) → names n k ≡ true → respond c k ≡ response (says (Refused 3) c)
removed-refused-3 = named-refused

module _ (c : State) (r : Reachable c) where
  -- what is not refused before the preparation is opened
  pub opening-accepted : (n : ℕ) → remove_refusal c n ≡ 0 → (remove_blossom c n).answer ≡ Done
  opening-accepted = opening-done c (reachable-past c r)

  -- then its members are outermost, each with its list, which it holds
  pub opening-members : (n : ℕ) → remove_refusal c n ≡ 0 → (m : ℕ) → parent_of c m ≡ n + 1 → MemberOutermost c (remove_blossom c n).state m
  opening-members = opening-member c (reachable-past c r)

  -- its number still counts, names nothing and has no lists
  pub opening-removes : (n : ℕ) → remove_refusal c n ≡ 0 → NumberRemoved c (remove_blossom c n).state n
  opening-removes = opening-removed c (reachable-past c r)

  -- and every call but a clear leaves it so
  pub removed-stays : (n : ℕ) (k : Call) → is_clear k ≡ false → class_of c n ≡ removed → class_of (respond c k).state n ≡ removed
  removed-stays n = stays-removed n c (reachable-past c r)

  -- then every node in it holds and lists what it did when the circle was joined (claim R)
  pub opening-gives-back : (n : ℕ) → remove_refusal c n ≡ 0 → GivesBack (log_of c r n) c n (remove_blossom c n).state
  opening-gives-back = opening-back c (reachable-past c r)

  -- so 15 says that the node is no blossom or its dual variable is above 0
  pub opening-refused : (n : ℕ) → (remove_blossom c n).answer ≡ Refused 15 → (is_blossom (class_of c n) ≡ false) ⊎ (dual_of c n ≢ 0)
  opening-refused = opening-refused-15 c (reachable-past c r)

  -- ---- lists

  -- refusal 9 counts 2E + V entries for a node: the lists of every node, in a blossom or not, have at most 2E and V
  pub lists-within : (n : ℕ) → n < node_count c → (length (boundary_of c n) ≤ side_count c) × (length (overgrown_of c n) ≤ vertex_count c)
  lists-within = (reachable-invariant c r).fits

  -- all lists together are within L
  pub entries-within : entries c ≤ c.store_limit
  entries-within = sound-entries c (reachable-invariant c r).sounds

  -- ---- edges and sides

  -- an edge passes its weight only where one node holds both its sides
  pub edge-within-weight : (s : ℕ) → s < side_count c → (grown_over c s ≤ weight_over c s) ⊎ ((holder_at c s ≢ 0) × (holder_at c (opposite s) ≡ holder_at c s))
  edge-within-weight = (reachable-invariant c r).clusters.global.within-weight

  -- so the gap of an edge is never over
  pub gap-never-over : (e x : ℕ) → e < edge_count c → Over x ≡ edge_gap c e → ⊥
  gap-never-over = over-never c (reachable-invariant c r).shape.end edge-within-weight

  -- in either case its two growths differ by at most its weight
  pub growths-differ : (s : ℕ) → s < side_count c → growth_at c s ≤ growth_at c (opposite s) + weight_over c s
  growths-differ = (reachable-invariant c r).clusters.global.differ

  -- a free side has growth 0
  pub free-side-zero : (s : ℕ) → holder_at c s ≡ 0 → growth_at c s ≡ 0
  free-side-zero = (reachable-invariant c r).clusters.global.free

  -- a side is free just where its vertex is
  pub side-free-with-vertex : (s : ℕ) → s < side_count c
      → (holder_at c s ≡ 0 → vertex_holder_at c (end_at c s) ≡ 0) × (vertex_holder_at c (end_at c s) ≡ 0 → holder_at c s ≡ 0)
  side-free-with-vertex = free-together c (reachable-invariant c r)

  -- a virtual vertex is never held
  pub virtual-free : (v : ℕ) → virtual_at c v ≢ 0 → vertex_holder_at c v ≡ 0
  virtual-free = (reachable-invariant c r).clusters.defect-nodes.virtuals

  -- listed sides at one vertex have the same growth
  pub listed-same-growth : (n : ℕ) → n < node_count c → parent_of c n ≡ 0 → (s t : ℕ) → member s (boundary_of c n) ≡ true
      → member t (boundary_of c n) ≡ true → end_at c s ≡ end_at c t → growth_at c s ≡ growth_at c t
  listed-same-growth = same-growth c (reachable-invariant c r)

  -- ---- after preparation

  -- an outermost node holds every side that it lists, whatever the weights: the mended pass leaves none without a holder
  pub prepared-boundary-held : (n d : ℕ) → n < node_count c → parent_of c n ≡ 0 → BoundaryHeld (prepare_node c n d).state n
  prepared-boundary-held = prepared-held c (reachable-invariant c r)

  -- and after preparation for shrinking a listed side of growth 0 stands at a defect
  pub prepared-zero-at-defect : (n : ℕ) → n < node_count c → parent_of c n ≡ 0 → (s : ℕ)
      → member s (boundary_of (prepare_node c n down).state n) ≡ true → growth_at (prepare_node c n down).state s ≡ 0
      → defect_at (prepare_node c n down).state (end_at (prepare_node c n down).state s) ≢ 0
  prepared-zero-at-defect = prepared-grown c (reachable-invariant c r)

  -- ---- refusal 5

  -- a vertex at which no defect may stand is virtual, a defect or held itself: its sides never decide
  pub vertex-decides-alone : (v : ℕ) → vertex_decides c v ≡ occupied c v
  vertex-decides-alone = decides-alone c (reachable-invariant c r)

  -- so where a defect is refused 5 no side is read, and where one is accepted all at its vertex
  pub refused-5-reads-none : (v x : ℕ) → defect_refusal c v x ≡ 5 → sides_read c v ≡ 0
  refused-5-reads-none v x h = none_read c v (vertex-decides-alone v ∙ refused-occupied c v x h)

  pub accepted-reads-all : (v x : ℕ) → defect_refusal c v x ≡ 0 → sides_read c v ≡ length (sides_at c v)
  accepted-reads-all v x h = all_read c v (accepted-vacant c v x h)

  -- ---- refusal 13

  -- 13 is met only without preparing: neither a length that prepares first nor `advance` is refused so
  pub length-never-refused-13 : (n d : ℕ) → (max_update_length c n d true).answer ≢ Refused 13
  length-never-refused-13 n d = not-thirteen _ (length-refusal c (reachable-invariant c r) n d)

  pub advance-never-refused-13 : (n : ℕ) → (advance c n).answer ≢ Refused 13
  advance-never-refused-13 n = not-thirteen _ (advance-refusal c (reachable-invariant c r) n)

  -- ---- the active list, and all clusters at once

  -- every node that is not in Stay stands in the active list, once, and lies in no blossom
  pub active-listed : (n : ℕ) → n < node_count c → grow_state_of c n ≢ stay → (member n c.active ≡ true) × (parent_of c n ≡ 0)
  active-listed n b ne = ((reachable-invariant c r).active-all n b ne, active-outer c (reachable-invariant c r) n b ne)

  pub active-distinct : distinct c.active ≡ true
  active-distinct = active-once c (sound-active c (reachable-invariant c r).sounds)

  -- a preparation of all is refused 9 only: never 2 or 6
  pub prepare-all-refused-only-9 : (k : ℕ) → (prepare_all c).answer ≡ Refused k → k ≡ 9
  prepare-all-refused-only-9 = prepare-all-refused c (reachable-invariant c r)

  -- so is the group: never 2, 6 or 13
  pub group-refused-only-9 : (k : ℕ) → (group_length c).group ≡ group_refused k → k ≡ 9
  group-refused-only-9 = group-refused-nine c (reachable-invariant c r)

  -- a round of a length above 0 is refused 9, 10, 11 or 12 only
  pub round-refused-only-9-to-12 : (l k : ℕ) → (round c (pos (suc l))).answer ≡ Refused k → member k (9 ∷ 10 ∷ 11 ∷ 12 ∷ []) ≡ true
  round-refused-only-9-to-12 = round-refused c (reachable-invariant c r)

  -- a limited length that the group answers is above 0
  pub group-length-above-0 : (z : ℤ) (e : Bool) → (group_length c).group ≡ group_free z e → long_as 1 z ≡ true
  group-length-above-0 = group-positive c (reachable-invariant c r)

  -- a round by it, on the state that the group leaves, is refused 9 or 12 only
  pub round-by-group-refused-only-9-or-12 : (z : ℤ) (e : Bool) → (group_length c).group ≡ group_free z e → (k : ℕ)
      → (round (group_length c).state z).answer ≡ Refused k → member k (9 ∷ 12 ∷ []) ≡ true
  round-by-group-refused-only-9-or-12 = by-group-refused c (reachable-invariant c r)
