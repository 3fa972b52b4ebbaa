use mathlib.Core.Path.{◌≡◌, refl, sym, ap, ◌∙◌}
use mathlib.Core.Bool.{Bool, not, ◌||◌}
use lib.Dec.{eqb}
use borrow.Author.Tests.{ne_eqb}
use Rattle.std.specs.Prelude.{Option, None, Some}
use Rattle.std.specs.Option.{is_some}
use Rattle.refusal.specs.declared.Refusal.{Refusal}
use Rattle.refusal.specs.Refusal.{number, number-some}
use Rattle.c_api_calls.specs.Outcome.{standing_refusal}
use Rattle.c_api_calls.specs.laws.Left.{still-tested, again-tested}
use Rattle.c_api_calls.proofs.test.Goals as goal

-- a refusal stands where its number is not 0
some-not : (o : Option Refusal) → is_some o ≡ not (eqb (standing_refusal o) 0)
some-not None = refl
some-not (Some e) = sym (ap not (ne_eqb (number e) 0 (number-some e)))

pub returns-then-s-is_some : goal.returns-then-s-is_some
returns-then-s-is_some c =
    let s = c.args.s in
    (still-tested c.requires.0 (rw (c.is_some.ensures ∙ some-not s.refusal) at c.if-s-is_some.true), refl, refl)

pub returns-in-Ok : goal.returns-in-Ok
returns-in-Ok c =
    let s = c.args.s in
    (again-tested c.requires.0 (rw (c.is_some.ensures ∙ some-not s.refusal) at c.if-s-is_some.false) c.in-Ok.ensures, refl, refl)

pub returns-in-Err : goal.returns-in-Err
returns-in-Err c =
    let s = c.args.s in
    let e = c.in-Err.refusal in
    let q = again-tested {tests = s.tests} c.requires.0 (rw (c.is_some.ensures ∙ some-not s.refusal) at c.if-s-is_some.false) c.in-Err.ensures in
    (rw (ne_eqb (number e) 0 (number-some e)) at q, refl, refl)
