use native.Mathlib.Omega.{arith}
use mathlib.Core.Path.{sym, ◌∙◌, ap}
use borrow.Author.Tests.{eq-eqb, ne_eqb}
use Rattle.answers.specs.Outcome.{Length}
use Rattle.update_length.specs.Scan.{scan}
use Rattle.update_length.specs.inner.Length.{scan_by, within_in}
use Rattle.update_length.specs.laws.Length.{length_above}
use Rattle.update_length.proofs.scan.scan.Goals as goal

pub scan_boundary-requires : goal.scan_boundary-requires
unfolding within_in
scan_boundary-requires c = let p = c.requires in (p.0, p.1, p.2, p.3, omega arith)

pub returns-then-d-eq-UP : goal.returns-then-d-eq-UP
unfolding scan scan_by
returns-then-d-eq-UP c = rw (eq-eqb _ _ c.if-d-eq-UP.true) c.scan_boundary.ensures

pub returns-then-dual-eq0 : goal.returns-then-dual-eq0
unfolding scan
returns-then-dual-eq0 c =
    rw (
      ne_eqb _ _ c.if-d-eq-UP.false,
      eq-eqb _ _ (sym c.dual.ensures.0 ∙ c.if-dual-eq0.true),
    )
    (ap Length c.stop_answer.ensures)

pub scan_boundary-requires-2 : goal.scan_boundary-requires-2
unfolding within_in
scan_boundary-requires-2 c = let p = c.requires in (p.0, p.1, p.2, p.3, omega (arith, c.shrink_limit-y.ensures.1))

pub returns : goal.returns
unfolding scan scan_by
returns c =
    let l = c.shrink_limit-y in
    let y = c.dual in
    rw (
      ne_eqb _ _ c.if-d-eq-UP.false,
      ne_eqb _ _ (λ e. c.if-dual-eq0.false (y.ensures.0 ∙ e)),
      ← l.ensures.0,
      ← length_above l.result,
    )
    c.scan_boundary-2.ensures
