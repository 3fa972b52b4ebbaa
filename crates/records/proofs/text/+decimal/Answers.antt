use native.Mathlib.Omega.{arith}
use mathlib.Core.Path.{sym, ◌∙◌, ap}
use mathlib.Core.List.{◌∷◌, []}
use Rattle.records.specs.laws.Lines.{decimal-last}
use Rattle.records.specs.laws.Write.{written_as, written_then, decimal-some, decimal-two, decimal-hundreds, two-long, hundreds-long}
use Rattle.records.proofs.text.+decimal.Goals as goal

pub byte-requires : goal.byte-requires
byte-requires t c = omega (arith, decimal-some c.args.x)

pub two-requires : goal.two-requires
two-requires t c =
    let two = two-long c.args.x c.if-x-lt10.false c.if-x-lt100.true in
    (omega arith, omega arith)

pub decimal-m-requires : goal.decimal-m-requires
decimal-m-requires t c =
    let more = hundreds-long c.args.x c.if-x-lt100.false in
    (omega arith, omega arith)

pub two-requires-else-x-lt100 : goal.two-requires-else-x-lt100
two-requires-else-x-lt100 t c =
    let more = hundreds-long c.args.x c.if-x-lt100.false in
    (omega (arith, c.decimal-m.ensures.place), omega arith)

pub returns-then-x-lt10 : goal.returns-then-x-lt10
returns-then-x-lt10 t c = written_as c.byte.ensures (ap (λ d. d ∷ []) c.digit.ensures ∙ sym (decimal-last _ c.if-x-lt10.true))

pub returns-then-x-lt100 : goal.returns-then-x-lt100
returns-then-x-lt100 t c = written_as c.two.ensures (sym (decimal-two _ c.if-x-lt10.false c.if-x-lt100.true))

pub returns-else-x-lt100 : goal.returns-else-x-lt100
returns-else-x-lt100 t c = written_as (written_then c.decimal-m.ensures c.two-else-x-lt100.ensures) (sym (decimal-hundreds _ c.if-x-lt100.false))
