-- Growth of a prepared node by a length l above 0, up or down: what refuses it, and the state that it leaves.
use Rattle.std.specs.Prelude.{ℕ, ◌+◌, Bool, false, ◌&&◌, ◌||◌, not, List, [], ◌∷◌, ltb, eqb, if◌then◌else◌}
use Rattle.graph.specs.Basic.{fold, any}
use Rattle.graph.specs.State.{State, Overgrown, opposite, growth_at, holder_at, dual_of, boundary_of, overgrown_of, grown_over, weight_over, with_growth, with_dual, with_overgrown, up}
use Rattle.graph.specs.Node.{moved}
use Rattle.graph.specs.Open.{dual_limit, growth_limit}

-- the top amount of a stack, or none: the test holds of it
unfoldable pub top_is : (ℕ → Bool) → List Overgrown → Bool
top_is p [] = false
top_is p (o ∷ os) = p o.amount

-- 10: growing side s by l would pass the weight of its edge, which node n does not hold on both sides
unfoldable pub passes_weight : State → ℕ → ℕ → ℕ → Bool
passes_weight c n l s = not (eqb (holder_at c (opposite s)) (n + 1)) && ltb (weight_over c s) (grown_over c s + l)

-- 12: the dual variable, the top amount or a side's growth would pass its limit
unfoldable pub passes_limit : State → ℕ → ℕ → Bool
passes_limit c n l =
    ltb dual_limit (dual_of c n + l) || top_is (λ a. ltb dual_limit (a + l)) (overgrown_of c n)
    || any (λ s. ltb growth_limit (growth_at c s + l)) (boundary_of c n)

-- 11: the dual variable, the top amount or a boundary side's growth is under l
unfoldable pub falls_short : State → ℕ → ℕ → Bool
falls_short c n l = ltb (dual_of c n) l || top_is (λ a. ltb a l) (overgrown_of c n) || any (λ s. ltb (growth_at c s) l) (boundary_of c n)

-- 0, or what refuses the growth
unfoldable pub grow_check : State → ℕ → ℕ → ℕ → ℕ
grow_check c n d l =
    if eqb d up then (if any (passes_weight c n l) (boundary_of c n) then 10 else if passes_limit c n l then 12 else 0)
    else if falls_short c n l then 11 else 0

-- the top amount of a stack is moved
unfoldable pub moved_stack : ℕ → ℕ → List Overgrown → List Overgrown
moved_stack d l [] = []
moved_stack d l (o ∷ os) = record { vertex = o.vertex; amount = moved d l o.amount } ∷ os

-- a boundary side is moved
unfoldable pub move_side : ℕ → ℕ → State → ℕ → State
move_side d l c s = with_growth c s (moved d l (growth_at c s))

-- the dual variable, the top amount and every boundary side are moved
unfoldable pub grow_apply : State → ℕ → ℕ → ℕ → State
grow_apply c n d l =
    fold (move_side d l) (with_overgrown (with_dual c n (moved d l (dual_of c n))) n (moved_stack d l (overgrown_of c n))) (boundary_of c n)
