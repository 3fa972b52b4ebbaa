-- The test of what stops an opening, side by side: marks over the sides, and the members' lists one behind the other.
use Rattle.std.specs.Prelude.{ℕ, ◌+◌, ◌<◌, ◌≡◌, Bool, true, ◌||◌, not, List, eqb, length, get_or}
use Rattle.graph.specs.Basic.{only, below}
use Rattle.graph.specs.State.{State, node_count, holder_at, parent_of}
use Rattle.graph.specs.inner.Form.{sides_ok}
use Rattle.graph.specs.inner.Scans.{Stamped}
use Rattle.calls.specs.Remove.{members_of, lists_of}

-- the boundary of every node holds sides
abbrev pub SidesIn : State → Type 0
SidesIn c = (m : ℕ) → m < node_count c → sides_ok c m ≡ true

-- side s has a holder
unfoldable pub has_holder : State → ℕ → Bool
has_holder c s = not (eqb (holder_at c s) 0)

-- side s is not held once the marked sides are not
unfoldable pub free_by : State → List ℕ → ℕ → Bool
free_by c own s = eqb (get_or own s 0) 1 || eqb (holder_at c s) 0

-- the lists of the members of n
abbrev pub member_lists : State → ℕ → List ℕ
member_lists c n = lists_of c (members_of c n)

-- node m lies in n itself
unfoldable pub is_member : State → ℕ → ℕ → Bool
is_member c n m = eqb (parent_of c m) (n + 1)

-- how many entries of these are of members below m
unfoldable pub entries_before : State → ℕ → ℕ → ℕ
entries_before c n m = length (lists_of c (only (is_member c n) (below m)))

-- of the members' lists the first i entries are free by `own` and none stands twice; `met` marks them 1
abbrev pub Met : State → ℕ → List ℕ → ℕ → List ℕ → Type 0
Met c n own i met = Stamped 1 (free_by c own) (member_lists c n) i met
