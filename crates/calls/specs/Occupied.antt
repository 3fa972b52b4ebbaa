-- The test for refusal 5, as it is made (SPECIFICATION 19): the vertex first, then its sides by rising edge, up to the
-- first held one.
use Rattle.std.specs.Prelude.{◌≡◌, ℕ, suc, ◌<◌, Bool, true, false, not, ◌||◌, List, [], ◌∷◌, length, ◌==◌, slice_index, if◌then◌else◌}
use Rattle.graph.specs.State.{State, holder_at, sides_at, virtual_at, defect_at, vertex_holder_at}

-- vertex v is virtual, a defect or held, whatever its sides are
unfoldable pub vertex_decides : State → ℕ → Bool
vertex_decides c v = not (virtual_at c v == 0) || not (defect_at c v == 0) || not (vertex_holder_at c v == 0)

-- side t is held
abbrev pub is_held : State → ℕ → Bool
is_held c t = not (holder_at c t == 0)

-- how many of these sides are read, one after another, until one is held
unfoldable pub read_until_held : State → List ℕ → ℕ
read_until_held c [] = 0
read_until_held c (t ∷ ts) = if is_held c t then 1 else suc (read_until_held c ts)

-- how many sides at vertex v the test reads: none where the vertex decides
unfoldable pub sides_read : State → ℕ → ℕ
sides_read c v = if vertex_decides c v then 0 else read_until_held c (sides_at c v)

-- number k of these sides is held, and none before it
pub record FirstHeld (c : State) (l : List ℕ) (k : ℕ) : Type 0 where
  pub within : k < length l
  pub held : is_held c (slice_index l k) ≡ true
  pub none_before : (i : ℕ) → i < k → is_held c (slice_index l i) ≡ false
