use native.Mathlib.Omega.{arith}
use Rattle.records.specs.laws.Write.{written_as, written_then, line-parts}
use borrow.Author.Rules.{rules}
use Rattle.records.proofs.lines.write_line.Goals as goal

pub returns : goal.returns
returns c =
    let a = c.args in (
      written_as
          (written_then (written_then c.start_line-a.ensures.0 c.numbers-b.ensures) c.byte.ensures)
          (line-parts a.k a.w.now _),
      omega (arith, c.byte.ensures.place, c.numbers-b.ensures.place),
    )
