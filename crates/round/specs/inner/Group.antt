-- The length of the group on one block: what is answered, what is listed, and the state that its trial leaves.
use Rattle.std.specs.Prelude.{ℕ, ◌≡◌, List, ◌++◌, ℤ, length}
use Rattle.graph.specs.Layout.{state_of}
use Rattle.graph.specs.inner.Form.{Becomes}
use Rattle.answers.specs.Outcome.{Answer}
use Rattle.calls.specs.Group.{GroupMaxUpdateLength as Group}
use Rattle.calls.specs.Group.{Conflicts as group_conflicts}
use Rattle.calls.specs.Round.{conflicts_of, stops_of, group_of, listed_by, prepared_all, group_length}
use Rattle.round_list.specs.Asked.{listed_from}

-- conflicts and stops of the answers xs were listed and counted
pub record ListedGroup (xs : List Answer) (list list' : List ℕ) (g : Group) : Type 0 where
  pub group : g ≡ group_conflicts (length (conflicts_of xs)) (length (stops_of xs))
  pub words : list' ≡ listed_from 0 (conflicts_of xs ++ stops_of xs) list

-- what the answers xs say together
pub record AskedGroup (xs : List Answer) (list list' : List ℕ) (g : Group) : Type 0 where
  pub group : g ≡ group_of xs
  pub words : list' ≡ listed_from 0 (listed_by xs) list

-- after b₀: the group's answer and list, and the state of its trial
pub record GroupTried (b₀ b : List ℤ) (list list' : List ℕ) (g : Group) : Type 0 where
  pub group : g ≡ (group_length (state_of b₀)).group
  pub words : list' ≡ listed_from 0 (group_length (state_of b₀)).listed list
  pub block : Becomes b₀ b (prepared_all (state_of b₀)).state
