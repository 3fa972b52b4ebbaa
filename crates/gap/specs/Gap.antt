-- The gap of an edge.
use Rattle.std.specs.Prelude.{ℕ, ◌+◌, ◌-◌, ◌*◌, Bool, ◌&&◌, not, eqb, ltb, if◌then◌else◌}
use Rattle.graph.specs.State.{State, growth_at, holder_at, weight_at}
use Rattle.gap.specs.declared.Gap.{Gap}
use Rattle.gap.specs.declared.Gap.TheVariants.{Inner, Over, Left}

-- one node holds both sides of edge e
unfoldable pub is_inner : State → ℕ → Bool
is_inner c e = not (eqb (holder_at c (2 * e)) 0) && eqb (holder_at c (2 * e)) (holder_at c (2 * e + 1))

-- the growths of both sides of edge e
abbrev pub grown_at : State → ℕ → ℕ
grown_at c e = growth_at c (2 * e) + growth_at c (2 * e + 1)

-- inner, over by what exceeds the weight, or what is left of it
unfoldable pub edge_gap : State → ℕ → Gap
edge_gap c e =
    if is_inner c e then Inner
    else if ltb (weight_at c e) (grown_at c e) then Over (grown_at c e - weight_at c e)
    else Left (weight_at c e - grown_at c e)
