use native.Mathlib.Omega.{arith}
use Rattle.records.specs.laws.Write.{decimal-short, written_as, written_then, line-start}
use borrow.Author.Rules.{rules}
use Rattle.records.proofs.lines.start_line.Goals as goal

pub decimal-a-requires : goal.decimal-a-requires
decimal-a-requires c =
    let few = decimal-short c.args.k (search rules) in omega arith

pub byte-b-requires : goal.byte-b-requires
byte-b-requires c =
    let few = decimal-short c.args.k (search rules) in
    omega (arith, c.decimal-a.ensures.place)

pub word-requires : goal.word-requires
word-requires c =
    let few = decimal-short c.args.k (search rules) in
    omega (arith, c.byte-b.ensures.place, c.decimal-a.ensures.place)

pub returns : goal.returns
returns c =
    let a = c.args in
    let few = decimal-short a.k (search rules) in (
      written_as
          (written_then (written_then c.decimal-a.ensures c.byte-b.ensures) c.word.ensures)
          (line-start a.k a.w.now),
      omega (arith, c.word.ensures.place, c.byte-b.ensures.place, c.decimal-a.ensures.place),
    )
