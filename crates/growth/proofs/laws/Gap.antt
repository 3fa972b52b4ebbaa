-- Refusal 10 at one side, by the gap of its edge.
use Rattle.std.specs.Prelude.{ℕ, ◌+◌, ◌<◌, ◌≡◌, ◌≢◌, Bool, true, false, ltb}
use Rattle.std.proofs.Math.Decide.{dec_lt}
use Rattle.std.proofs.Common.{arith, sym, ◌∙◌, eq-eqb, ne_eqb, lt-ltb, le-ltb}
use Rattle.graph.specs.State.{State, opposite, holder_at, grown_over, weight_over}
use Rattle.growth.specs.Growth.{passes_weight}

-- h is the holder of the far side o
module _ (c : State) (n l s : ℕ) {o h : ℕ} (e : o ≡ opposite s) (k : h ≡ holder_at c o) where
  pub passes-own : h ≡ n + 1 → false ≡ passes_weight c n l s
  unfolding passes_weight
  passes-own q = let z : holder_at c (opposite s) ≡ n + 1 = rw (← e) (sym k ∙ q) in rw (eq-eqb (holder_at c (opposite s)) (n + 1) z)

  pub passes-other : h ≢ n + 1 → {r : Bool} → r ≡ ltb (weight_over c s) (grown_over c s + l) → r ≡ passes_weight c n l s
  unfolding passes_weight
  passes-other q t =
      let z : holder_at c (opposite s) ≢ n + 1 = λ y. q (k ∙ rw e y) in
      rw (ne_eqb (holder_at c (opposite s)) (n + 1) z) t

-- by what is left, or what is over
pub passes-left : (w g x l : ℕ) → g + x ≡ w → ltb x l ≡ ltb w (g + l)
passes-left w g x l e =
    elim (dec_lt x l) [
      | yes h ↦ rw (lt-ltb x l h, lt-ltb w (g + l) (omega arith))
      | no h ↦ rw (le-ltb x l (omega arith), le-ltb w (g + l) (omega arith))
    ]

pub passes_over : (w g x l : ℕ) → w + x ≡ g → 0 < x → true ≡ ltb w (g + l)
passes_over w g x l e p = sym (lt-ltb w (g + l) (omega arith))
