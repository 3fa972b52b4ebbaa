-- What the history of a list of calls says of a node that is read.
use Rattle.std.specs.Prelude.{ℕ, ◌≤◌, ◌≡◌, List, ltb, length, get_or, if◌then◌else◌}
use Rattle.dual_module_node.specs.Outcome.{NodeRead}
use Rattle.dual_module_node.specs.Outcome.{Defect, Refused}
use Rattle.table_theorem.specs.History.{History, entry_at, natural}

-- the defect of entry n, with its vertex, grow state and dual variable, in no blossom; without an entry refused 3
unfoldable pub recorded_node : History → ℕ → NodeRead
recorded_node h n =
    if ltb n (length h) then Defect (entry_at h n).vertex (entry_at h n).grow_state 0 (natural (entry_at h n).y)
    else Refused 3

-- the list of an answer tells of a defect: it has room, and in front the number of that case, 15
pub record SaysDefect (list list' : List ℕ) : Type 0 where
  pub room : 5 ≤ length list
  pub first-is : get_or list' 0 0 ≡ 15
