use mathlib.Core.Path.{sym, ◌∙◌, ap}
use native.Mathlib.Omega.{arith}
use lib.Dec.{leb}
use Rattle.records.specs.laws.Decode.{lengthy, three-fields, formed-none, formed-plain, formed-length}
use borrow.Author.Rules.{rules}
use Rattle.records.proofs.record.well_formed.Goals as goal

pub pair-requires : goal.pair-requires
pair-requires c = omega (arith, (lengthy _ (sym c.length_fits.ensures ∙ c.if-length_fits.true)).kind)

pub field-requires : goal.field-requires
field-requires c =
    three-fields _ (sym c.length_fits.ensures ∙ c.if-length_fits.true)
    (sym c.pair.ensures.0 ∙ c.if-pair-eq8.true)

pub returns-then-pair-eq8 : goal.returns-then-pair-eq8
returns-then-pair-eq8 c =
    ap (λ x. leb x 1) c.field.ensures.0
    ∙ sym
    (formed-length _ (sym c.length_fits.ensures ∙ c.if-length_fits.true)
    (sym c.pair.ensures.0 ∙ c.if-pair-eq8.true))

pub returns-then-length_fits : goal.returns-then-length_fits
returns-then-length_fits c = sym (formed-plain _ (sym c.length_fits.ensures ∙ c.if-length_fits.true) (λ q. omega arith))

pub returns : goal.returns
returns c = sym (formed-none _ (sym c.length_fits.ensures ∙ c.if-length_fits.false))
