-- Sums over the numbers below n.
use Rattle.std.specs.Prelude.{ℕ, zero, suc, ◌+◌, ◌<◌, ◌≡◌, refl, ◌≢◌}
use Rattle.std.proofs.Common.{arith, sym, ap}
use Rattle.std.proofs.Math.Decide.{ℕ_discrete as dec_eq}
use Rattle.graph.specs.Basic.{sum_below}

-- two sums whose terms are equal below n
pub sum_same : (f g : ℕ → ℕ) (n : ℕ) → ((i : ℕ) → i < n → f i ≡ g i) → sum_below f n ≡ sum_below g n
unfolding sum_below
sum_same f g zero h = refl
sum_same f g (suc n) h =
    let e : sum_below f n ≡ sum_below g n = sum_same f g n (λ i b. h i (omega arith)) in
    let r : f n ≡ g n = h n (omega arith) in
    omega arith

-- two sums that differ at m alone
pub sum-apart : (f g : ℕ → ℕ) (n m : ℕ) → m < n → ((i : ℕ) → i ≢ m → f i ≡ g i) → sum_below g n + f m ≡ sum_below f n + g m
unfolding sum_below
sum-apart f g zero m b h = absurd (omega arith)
sum-apart f g (suc n) m b h =
    elim (dec_eq m n) [
      | yes e ↦
          let q : sum_below f n ≡ sum_below g n = sum_same f g n (λ i l. h i (omega arith)) in
          let fz : f n ≡ f m = ap f (sym e) in
          let gz : g n ≡ g m = ap g (sym e) in
          omega arith
      | no ne ↦
          let ih : sum_below g n + f m ≡ sum_below f n + g m = sum-apart f g n m (omega arith) h in
          let r : f n ≡ g n = h n (λ e. ne (sym e)) in
          omega arith
    ]
