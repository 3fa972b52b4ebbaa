-- The gap of an edge is never over where an edge passes its weight only between sides of one holder.
use Rattle.std.specs.Prelude.{ℕ, ◌+◌, ◌*◌, ◌/◌, ◌≤◌, ◌<◌, ◌≡◌, refl, ◌≢◌, ◌⊎◌, true, false}
use Rattle.std.proofs.Common.{arith, sym, ap, inl, inr, eq-eqb, ne_eqb}
use Rattle.graph.specs.State.{State, edge_count, side_count, opposite, holder_at, grown_over, weight_over}
use Rattle.graph.specs.laws.State.{opposite-even}
use Rattle.graph.specs.laws.Members.{clash}
use Rattle.gap.specs.declared.Gap.{Gap}
use Rattle.gap.specs.declared.Gap.TheVariants.{Inner, Over, Left}
use Rattle.gap.specs.Gap.{is_inner, edge_gap}
use Rattle.gap.specs.laws.Gap.{over-side, over-inner}

pub over-never : (c : State) → side_count c ≡ 2 * edge_count c
    → ((s : ℕ) → s < side_count c → (grown_over c s ≤ weight_over c s) ⊎ ((holder_at c s ≢ 0) × (holder_at c (opposite s) ≡ holder_at c s)))
    → (e x : ℕ) → e < edge_count c → Over x ≡ edge_gap c e → ⊥
unfolding is_inner
over-never c z within e x h q =
    let s : ℕ = 2 * e in
    let y : s / 2 ≡ e = omega arith in
    let o : opposite s ≡ s + 1 = opposite-even s (omega arith) in
    let k = over-side c s x (rw y q) in
    elim (within s (omega arith)) [
      | inl l ↦ omega (arith, l, k.0, k.1)
      | inr i ↦
          let w : is_inner c e ≡ true = rw (ne_eqb (holder_at c s) 0 i.0, ← o, i.1, eq-eqb (holder_at c s) (holder_at c s) refl) in
          clash (is_inner c e) w (over-inner c e x q)
    ]
