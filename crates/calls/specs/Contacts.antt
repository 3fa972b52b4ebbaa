-- Contacts (SPECIFICATION 22): the full edges that join two clusters, or a cluster and the code's open boundary.
use Rattle.std.specs.Prelude.{◌≡◌, ℕ, zero, suc, ◌+◌, ◌-◌, ◌*◌, ◌<◌, Bool, not, ◌&&◌, ◌≢◌, List, [], ◌∷◌, map, ℤ, pos, negsuc, ◌==◌, if◌then◌else◌}
use Rattle.graph.specs.Basic.{only, below}
use Rattle.graph.specs.State.{State, edge_count, node_count, end_at, growth_at, holder_at, weight_at, virtual_at, vertex_holder_at, parent_of}

-- ---- the ends of an edge

-- up the parents from node n, at most `fuel` times
unfoldable pub outermost_by : ℕ → State → ℕ → ℕ
outermost_by zero c n = n
outermost_by (suc fuel) c n = if parent_of c n == 0 then n else outermost_by fuel c (parent_of c n - 1)

-- the outermost node that node n lies in, or n itself: each parent is numbered above, so that so many times are enough
unfoldable pub outermost_of : State → ℕ → ℕ
outermost_of c n = outermost_by (node_count c) c n

-- the outermost node of the holder of side s, as its number + 1; 0 where the side is free
unfoldable pub side_node : State → ℕ → ℕ
side_node c s = if holder_at c s == 0 then 0 else outermost_of c (holder_at c s - 1) + 1

-- ---- the rule

-- side s is free at a virtual vertex that is free
pub record FreeVirtual (c : State) (s : ℕ) : Type 0 where
  pub side : holder_at c s ≡ 0
  pub vertex : vertex_holder_at c (end_at c s) ≡ 0
  pub virtual : virtual_at c (end_at c s) ≢ 0

-- an edge whose left end is at node p and whose right end is at node q joins something: each is a number + 1, or 0
pub data Joins (c : State) (e p q : ℕ) : Type 0 where
  two-nodes : p ≢ 0 → q ≢ 0 → p ≢ q → Joins c e p q
  virtual-right : p ≢ 0 → FreeVirtual c (2 * e + 1) → Joins c e p q
  virtual-left : q ≢ 0 → FreeVirtual c (2 * e) → Joins c e p q

-- an edge, and what stands at its two ends: an outermost node as its number + 1, or 0 for the virtual vertex
pub record Contact : Type 0 where
  pub edge : ℕ
  pub left : ℕ
  pub right : ℕ

-- the rule: an edge of the graph is full, its ends are at the outermost nodes of its holders, and it joins something
pub record IsContact (c : State) (x : Contact) : Type 0 where
  pub in_graph : x.edge < edge_count c
  pub full : growth_at c (2 * x.edge) + growth_at c (2 * x.edge + 1) ≡ weight_at c x.edge
  pub left-node : x.left ≡ side_node c (2 * x.edge)
  pub right-node : x.right ≡ side_node c (2 * x.edge + 1)
  pub joins : Joins c x.edge x.left x.right

-- ---- the list

-- the two growths of edge e sum to its weight
unfoldable pub touches : State → ℕ → Bool
touches c e = growth_at c (2 * e) + growth_at c (2 * e + 1) == weight_at c e

-- whether side s is free at a virtual vertex that is free
unfoldable pub free_virtual : State → ℕ → Bool
free_virtual c s = holder_at c s == 0 && vertex_holder_at c (end_at c s) == 0 && not (virtual_at c (end_at c s) == 0)

-- whether nodes p and q, or one of them and a virtual vertex, are joined by edge e
unfoldable pub joins_nodes : State → ℕ → ℕ → ℕ → Bool
joins_nodes c e p q =
    if p == 0 then not (q == 0) && free_virtual c (2 * e)
    else if q == 0 then free_virtual c (2 * e + 1)
    else not (p == q)

unfoldable pub is_contact : State → ℕ → Bool
is_contact c e = touches c e && joins_nodes c e (side_node c (2 * e)) (side_node c (2 * e + 1))

unfoldable pub contact_of : State → ℕ → Contact
contact_of c e = record { edge = e; left = side_node c (2 * e); right = side_node c (2 * e + 1) }

-- every contact, by rising edge
unfoldable pub contacts : State → List Contact
contacts c = map (contact_of c) (only (is_contact c) (below (edge_count c)))

-- ---- in a lent list

-- an end as a word: the number of the node, or -1
abbrev pub end_word : ℕ → ℤ
end_word p = if p == 0 then negsuc 0 else pos (p - 1)

-- three words for each contact
unfoldable pub contact_words : List Contact → List ℤ
contact_words [] = []
contact_words (x ∷ xs) = pos x.edge ∷ end_word x.left ∷ end_word x.right ∷ contact_words xs
