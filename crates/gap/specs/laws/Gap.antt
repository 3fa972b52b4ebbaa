-- What each answer says of a side of the edge.
use Rattle.std.specs.Prelude.{ℕ, ◌+◌, ◌-◌, ◌*◌, ◌/◌, ◌≤◌, ◌<◌, ◌≡◌, true, false, List, ℤ, ltb}
use Rattle.std.proofs.Common.{arith, ltb-true, ltb-false}
use Rattle.std.proofs.Math.Path.{ap}
use Rattle.graph.specs.State.{State, side_count, edge_of, weight_at, grown_over, weight_over}
use Rattle.graph.specs.Open.{weight_limit}
use Rattle.graph.specs.Layout.{state_of, state_from}
use Rattle.graph.specs.Form.{Formed}
use Rattle.graph.specs.laws.Field.{weight-below}
use Rattle.graph.specs.laws.State.{by-parity, opposite-even, opposite-odd, if-cases}
use Rattle.gap.specs.declared.Gap.{Gap}
use Rattle.gap.specs.declared.Gap.TheVariants.{Inner, Over, Left}
use Rattle.gap.specs.Gap.{is_inner, grown_at, edge_gap}

-- both sides of its edge have grown as much as s and its opposite
pub grown-side : (c : State) (s : ℕ) → grown_at c (edge_of s) ≡ grown_over c s
grown-side c s =
    by-parity (grown_at c (edge_of s) ≡ grown_over c s) s
    (λ e. let z : 2 * (s / 2) ≡ s = omega arith in rw (opposite-even s e, z))
    (λ e.
    let y : 2 * (s / 2) ≡ s - 1 = omega arith in
    let z : s - 1 + 1 ≡ s = omega arith in
    rw (opposite-odd s e, y, z) (omega arith))

-- which case it is, and its number
case_of : Gap → ℕ
case_of Inner = 0
case_of (Over x) = 1
case_of (Left x) = 2

amount_of : Gap → ℕ
amount_of Inner = 0
amount_of (Over x) = x
amount_of (Left x) = x

-- to prove a fact of the gap, prove it in each case
pub gap-cases : (P : Gap → Type 0) (c : State) (e : ℕ) → (is_inner c e ≡ true → P Inner)
    → (is_inner c e ≡ false → weight_at c e < grown_at c e → P (Over (grown_at c e - weight_at c e)))
    → (is_inner c e ≡ false → grown_at c e ≤ weight_at c e → P (Left (weight_at c e - grown_at c e))) → P (edge_gap c e)
unfolding edge_gap
gap-cases P c e i o l =
    if-cases P (is_inner c e) i
    (λ n.
    if-cases P (ltb (weight_at c e) (grown_at c e))
    (λ h. o n (ltb-true _ _ h))
    (λ h. l n (ltb-false _ _ h)))

module _ (c : State) (s x : ℕ) where
  pub left-side : Left x ≡ edge_gap c (edge_of s) → grown_over c s + x ≡ weight_over c s
  unfolding case_of amount_of
  left-side =
      gap-cases (λ (g : Gap). Left x ≡ g → grown_over c s + x ≡ weight_over c s) c (edge_of s)
      (λ n q. absurd (let z : 2 ≡ 0 = ap case_of q in omega arith))
      (λ n h q. absurd (let z : 2 ≡ 1 = ap case_of q in omega arith))
      (λ n h q. let z : x ≡ weight_at c (edge_of s) - grown_at c (edge_of s) = ap amount_of q in omega (arith, z, h, grown-side c s))

  pub over-side : Over x ≡ edge_gap c (edge_of s) → (weight_over c s + x ≡ grown_over c s) × (0 < x)
  unfolding case_of amount_of
  over-side =
      gap-cases (λ (g : Gap). Over x ≡ g → (weight_over c s + x ≡ grown_over c s) × (0 < x)) c (edge_of s)
      (λ n q. absurd (let z : 1 ≡ 0 = ap case_of q in omega arith))
      (λ n h q.
      let z : x ≡ grown_at c (edge_of s) - weight_at c (edge_of s) = ap amount_of q in
      (omega (arith, z, h, grown-side c s), omega (arith, z, h)))
      (λ n h q. absurd (let z : 1 ≡ 2 = ap case_of q in omega arith))

-- over is never said of an inner edge
pub over-inner : (c : State) (e x : ℕ) → Over x ≡ edge_gap c e → is_inner c e ≡ false
unfolding case_of
over-inner c e x =
    gap-cases (λ (g : Gap). Over x ≡ g → is_inner c e ≡ false) c e
    (λ n q. absurd (let z : 1 ≡ 0 = ap case_of q in omega arith))
    (λ n h q. n)
    (λ n h q. n)

-- a weight is within its limit
pub weight-small : (b : List ℤ) (s : ℕ) → Formed b → s < side_count (state_of b) → weight_over (state_of b) s ≤ weight_limit
unfolding state_of state_from
weight-small b s f h = weight-below b (edge_of s) f (omega (arith, f.pairs, h))
