-- What is read before the opening, in memory: the struct of src/setup.rt, the words of the edges and those of the virtual vertices.
use Rattle.std.specs.Prelude.{ℕ, ◌+◌, ◌*◌, min, ◌≤◌, ◌<◌, ◌≡◌, Bool, true, false, ◌&&◌, not, List, ℤ, pos, leb, ltb, length, get_or, set, take, if◌then◌else◌}
use Rattle.graph.specs.Basic.{all, member, distinct}
use Rattle.graph.specs.Open.{Edge}
use Rattle.graph.specs.Opening.{edge_at, virtuals_from}
use Rattle.records.specs.Run.{Gathered}
use Rattle.records.specs.declared.setup.Setup.{Setup}

-- ---- what each record leaves

unfoldable pub from_sizes : ℕ → ℕ → ℕ → ℕ → Setup
from_sizes v e n l = record { v = v; e = e; n = n; l = l; edges = 0; virtuals = 0; bad = false }

-- one edge more; the count stops at a million
unfoldable pub counted_edge : ℕ → ℕ
counted_edge i = if ltb i 1000000 then i + 1 else i

unfoldable pub edge_added : Setup → Setup
edge_added s = record { v = s.v; e = s.e; n = s.n; l = s.l; edges = counted_edge s.edges; virtuals = s.virtuals; bad = s.bad }

-- the words with edge i; only the first 128 are stored
unfoldable pub stored_edge : List ℤ → ℕ → ℕ → ℕ → ℕ → List ℤ
stored_edge words i x y w = if ltb i 128 then set (set (set words (3 * i) (pos x)) (3 * i + 1) (pos y)) (3 * i + 2) (pos w) else words

-- x is below 64 and not among the first n words
unfoldable pub new_virtual : List ℤ → ℕ → ℕ → Bool
new_virtual words n x = ltb x 64 && not (member x (virtuals_from (take n words)))

unfoldable pub virtual_added : Setup → List ℤ → ℕ → Setup
virtual_added s words x =
    if leb s.v x then record { v = s.v; e = s.e; n = s.n; l = s.l; edges = s.edges; virtuals = s.virtuals; bad = true }
    else if new_virtual words s.virtuals x then record { v = s.v; e = s.e; n = s.n; l = s.l; edges = s.edges; virtuals = s.virtuals + 1; bad = s.bad }
    else s

unfoldable pub stored_virtual : Setup → List ℤ → ℕ → List ℤ
stored_virtual s words x = if leb s.v x then words else if new_virtual words s.virtuals x then set words s.virtuals (pos x) else words

-- ---- what the memory holds

-- the virtual vertices that are stored
abbrev pub stored_of : Setup → List ℤ → List ℕ
stored_of s words = virtuals_from (take s.virtuals words)

-- an edge of nothing, where there is none
unfoldable pub no_edge : Edge
no_edge = record { left = 0; right = 0; weight = 0 }

-- struct and words hold what was gathered: the sizes, the count of the edges and the first 128 of them, the distinct
-- virtual vertices below 64, and whether one was out of range
pub record SetupHolds (s : Setup) (edges virtuals : List ℤ) (g : Gathered) : Type 0 where
  pub vertices : s.v ≡ g.v
  pub edge-size : s.e ≡ g.e
  pub node-limit : s.n ≡ g.n
  pub store-limit : s.l ≡ g.l
  pub count : s.edges ≡ min (length g.edges) 1000000
  pub edge : (i : ℕ) → i < length g.edges → i < 128 → edge_at edges i ≡ get_or g.edges i no_edge
  pub room : s.virtuals ≤ length virtuals
  pub small : all (λ x. ltb x 64) (stored_of s virtuals) ≡ true
  pub inside : all (λ x. ltb x g.v) (stored_of s virtuals) ≡ true
  pub once : distinct (stored_of s virtuals) ≡ true
  pub same : (x : ℕ) → x < 64 → x < g.v → member x (stored_of s virtuals) ≡ member x g.virtuals
  pub bad : s.bad ≡ not (all (λ x. ltb x g.v) g.virtuals)
