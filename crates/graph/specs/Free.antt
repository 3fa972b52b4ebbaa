-- The words of a block that hold no part of its state. A call that writes leaves in them what it happens to; no call reads them, whatever they
-- hold, negative words too (free-word-unread in laws/Free).
use Rattle.std.specs.Prelude.{ℕ, Bool, ◌&&◌, ◌||◌, List, ℤ, leb, eqb}
use Rattle.graph.specs.Sound.{entries}
use Rattle.graph.specs.Layout.{count_of, active_count_of, state_of}

-- place i of row k: behind the seven numbers of the header; behind the last node; behind the last list; behind the last active node
unfoldable pub free_place : List ℤ → ℕ → ℕ → Bool
free_place b k i =
    (eqb k 0 && leb 7 i)
    || ((leb 11 k && (leb k 17 && leb (count_of b) i)) || ((eqb k 18 && leb (entries (state_of b)) i) || (eqb k 19 && leb (active_count_of b) i)))
