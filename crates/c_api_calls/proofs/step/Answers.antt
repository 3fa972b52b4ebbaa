use Prim.Native.Nat.{◌+◌}
use native.Mathlib.Omega.{arith}
use mathlib.Core.Path.{refl, sym, ap, ◌∙◌}
use Rattle.refusal.specs.Refusal.{number-some}
use Rattle.c_api_calls.specs.laws.Left.{made-steps, refused-steps}
use Rattle.c_api_calls.proofs.step.Goals as goal

pub returns-in-Some : goal.returns-in-Some
returns-in-Some c =
    let t = c.test-s.ensures in
    rw c.in-Some.is (
      refused-steps (omega (arith, c.requires.4)) (number-some c.in-Some.refusal) (rw c.in-Some.is at t.0)
          (λ h. c.requires.0.cleared (sym t.2 ∙ h)) c.tell_refusal.ensures,
      ap (λ x. x + 1) t.1,
      omega (arith, t.0.more, t.1, c.requires.1),
    )

pub make-a-requires : goal.make-a-requires
make-a-requires c =
    let t = c.test-s.ensures in
    let n = rw c.in_default.is at t.0 in
    (record { accepted = n.sounds refl; cleared = λ h. c.requires.0.cleared (sym t.2 ∙ h) }, c.requires.3, c.requires.4)

pub returns : goal.returns
returns c =
    let t = c.test-s.ensures in (
      made-steps (omega (arith, c.requires.4)) (rw c.in_default.is at t.0) c.make-a.ensures,
      ap (λ x. x + 1) t.1,
      omega (arith, t.0.more, t.1, c.requires.1),
    )
