use native.Mathlib.Omega.{arith}
use Rattle.records.specs.Text.{ascii}
use Rattle.records.specs.laws.Write.{written_as, written_then}
use Rattle.records.specs.laws.Told.{one-short}
use Rattle.records.specs.laws.Contact.{words_of}
use borrow.Author.Rules.{rules}
use Rattle.records.proofs.contact.words.Goals as goal

pub numbers-b-requires : goal.numbers-b-requires
numbers-b-requires c = omega (arith, one-short c.args.e (search rules), c.word-a.ensures.place, c.word-a.auto.t)

pub end-c-requires : goal.end-c-requires
end-c-requires c =
    let n = c.numbers-b in
    let w = c.word-a in
    omega (arith, one-short c.args.e (search rules), n.ensures.place, n.auto.t, w.ensures.place, w.auto.t)

pub end-requires : goal.end-requires
end-requires c =
    let e = c.end-c in
    let n = c.numbers-b in
    let w = c.word-a in
    omega (arith, one-short c.args.e (search rules), e.ensures.1, e.auto.t, n.ensures.place, n.auto.t, w.ensures.place, w.auto.t)

pub returns : goal.returns
unfolding ascii
returns c =
    let f = c.end in
    let e = c.end-c in
    let n = c.numbers-b in
    let w = c.word-a in (
      written_as (written_then (written_then (written_then w.ensures n.ensures) e.ensures.0) f.ensures.0) (words_of _),
      omega (arith, one-short c.args.e (search rules), f.ensures.1, e.ensures.1, n.ensures.place, w.ensures.place),
    )
