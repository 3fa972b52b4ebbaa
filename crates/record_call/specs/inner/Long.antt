-- What refuses a circle that is too long to be accepted, entry by entry.
use Rattle.std.specs.Prelude.{ℕ, Bool, ◌||◌, List, if◌then◌else◌}
use Rattle.graph.specs.Basic.{any}
use Rattle.graph.specs.State.{State}
use Rattle.calls.specs.Refuse.{bad_node, in_blossom}

-- the entries l are left; `inner` says whether one before them lies in a blossom
unfoldable pub rest_refusal : State → Bool → List ℕ → ℕ
rest_refusal c inner l = if any (bad_node c) l then 3 else if inner || any (in_blossom c) l then 6 else 7
