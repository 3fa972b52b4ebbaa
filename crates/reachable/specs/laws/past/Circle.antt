-- The members of a circle are prepared one after the other: the past is kept.
use Rattle.std.specs.Prelude.{ℕ, ◌<◌, ◌≡◌, false, List, [], ◌∷◌}
use Rattle.std.proofs.Math.Bool.{true}
use Rattle.graph.specs.Basic.{fold, member}
use Rattle.graph.specs.State.{State, node_count, class_of, parent_of, down}
use Rattle.graph.specs.laws.State.{fold-keeps-rest}
use Rattle.graph.specs.laws.Members.{member-head}
use Rattle.pass.specs.Prepare.{prepare_node}
use Rattle.calls.specs.Insert.{prepare_step}
use Rattle.reachable.specs.Invariant.{Labels, Live}
use Rattle.reachable.specs.laws.insert.Circle.{CirclePreparing, member-prepared, none-prepared}
use Rattle.graph.specs.Sound.{is_removed}
use Rattle.reachable.specs.Past.{Past}
use Rattle.reachable.specs.laws.past.Prepare.{PastDown, past_down, past-facts}

pub record CirclePast (log : ℕ → State) (circle : List ℕ) (top : ℕ → ℕ) (b c : State) (r : List ℕ) : Type 0 where
  pub preparing : CirclePreparing circle b c r
  pub past-then : Past log (record { state = c; labels = preparing.labels; top = top })

module _ (log : ℕ → State) (circle : List ℕ) (top : ℕ → ℕ) (b : State) (inside : (m : ℕ) → member m circle ≡ true → m < node_count b)
    (outer : (m : ℕ) → member m circle ≡ true → parent_of b m ≡ 0) (alive : (m : ℕ) → member m circle ≡ true → is_removed (class_of b m) ≡ false) where
  past-member : (c : State) (m : ℕ) (r : List ℕ) → CirclePast log circle top b c (m ∷ r) → CirclePast log circle top b (prepare_step c m) r
  unfolding prepare_step
  past-member c m r x =
      let i : CirclePreparing circle b c (m ∷ r) = x.preparing in
      let here : member m circle ≡ true = i.sub m (member-head m r) in
      let s : PastDown log m c x.preparing.labels top (prepare_node c m down).state =
      past_down m c x.preparing.labels top x.past-then (rw i.grow_state (inside m here)) (rw i.parent (outer m here)) in
      record { preparing = member-prepared circle b inside outer alive c m r x.preparing s.down; past-then = s.past_after }

  pub circle-past : (k : Labels) → Past log (record { state = b; labels = k; top = top }) → Live b → CirclePast log circle top b (fold prepare_step b circle) []
  circle-past k h w =
      fold-keeps-rest prepare_step (CirclePast log circle top b) past-member b circle
      (record { preparing = none-prepared circle b inside outer alive k (past-facts h).numbers (past-facts h).clusters w; past-then = h })
