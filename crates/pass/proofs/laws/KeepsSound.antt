-- The test of a preparation for shrinking, pass after pass.
use Rattle.std.specs.Prelude.{ℕ, suc, ◌≡◌, refl, Bool, true, false, ◌&&◌}
use Rattle.std.proofs.Common.{sym, ◌∙◌}
use Rattle.std.proofs.Math.Path.{ap}
use Rattle.std.proofs.Math.Bool.{and-true}
use Rattle.graph.specs.State.{State, down}
use Rattle.pass.specs.Work.{Work, finish_pass}
use Rattle.pass.specs.Shrink.{shrink_pass}
use Rattle.pass.specs.Prepare.{one_pass}
use Rattle.pass.specs.KeepsSound.{pass_own, passes_own}
use Rattle.pass.proofs.laws.Prepare.{pass_state, one_down}

module _ (n fuel : ℕ) (c : State) where
  -- what follows a pass, by its call for another
  onward : Bool → Bool
  onward true = passes_own fuel (finish_pass (shrink_pass c n) n) n
  onward false = true

  step : passes_own (suc fuel) c n ≡ pass_own c n && onward (one_pass c n down).another
  unfolding passes_own onward
  step = ap (λ (w : Work). pass_own c n && onward w.another) (sym (one_down c n down refl))

  pub passes-more : (one_pass c n down).another ≡ true → passes_own (suc fuel) c n ≡ pass_own c n && passes_own fuel (pass_state c n down) n
  unfolding onward
  passes-more e =
      step ∙ ap (λ t. pass_own c n && onward t) e ∙ ap (λ (w : Work). pass_own c n && passes_own fuel (finish_pass w n) n) (sym (one_down c n down refl))

  pub passes-last : (one_pass c n down).another ≡ false → passes_own (suc fuel) c n ≡ pass_own c n
  unfolding onward
  passes-last e = step ∙ ap (λ t. pass_own c n && onward t) e ∙ and-true (pass_own c n)
