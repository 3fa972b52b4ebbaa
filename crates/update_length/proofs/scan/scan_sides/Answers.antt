use Rattle.graph.specs.State.{side_count}
use borrow.Author.Rules.{rules}
use native.Mathlib.Omega.{arith}
use Prim.Native.Nat.{◌+◌}
use mathlib.Core.Path.{ap, sym, ◌≡◌, ◌∙◌}
use Rattle.graph.specs.Word.{to_nat, word_at}
use Rattle.answers.specs.Outcome.{length_told}
use Rattle.graph.specs.Layout.{state_of}
use Rattle.graph.specs.laws.Number.{word_below}
use Rattle.update_length.specs.laws.Scanning.{scan-none, scan-more, scan-met}
use Rattle.update_length.proofs.scan.scan_sides.Goals as goal

pub loop-word-init : goal.loop-word-init
loop-word-init c = let a = c.args in (scan-none (state_of a.b.now) a.n a.d a.start a.boundary.now c.requires.4)

pub look_side-l-requires : goal.look_side-l-requires
look_side-l-requires c =
    let e : c.to_nat-s.result ≡ word_at c.args.boundary.now c.loop-word.word-index = c.to_nat-s.ensures.0
    ∙ unfold word_at in ap to_nat (search rules) in
    let m = side_count (state_of c.args.b.now) in (
      c.requires.0,
      c.requires.1,
      rw e
          (word_below m c.args.boundary.now c.loop-word.word-index c.requires.3 (omega arith)),
      c.requires.2,
    )

pub returns-then-is_over : goal.returns-then-is_over
returns-then-is_over c =
    let a = c.args in
    let q = c.loop-word in
    scan-met (state_of a.b.now) a.n a.d a.start a.boundary.now (q.word-index + 1)
    (sym (c.is_over.ensures length_told) ∙ c.if-is_over.true)
    (scan-more (state_of a.b.now) a.n a.d a.start a.boundary.now q.word-index _
    (omega arith) (c.to_nat-s.ensures.0 ∙ unfold word_at in ap to_nat (search rules)) q.invariant
    c.look_side-l.ensures (c.join-r.ensures length_told))

pub loop-word-preserved : goal.loop-word-preserved
loop-word-preserved c =
    let a = c.args in
    let q = c.loop-word in (
    scan-more (state_of a.b.now) a.n a.d a.start a.boundary.now q.word-index _
    (omega arith) (c.to_nat-s.ensures.0 ∙ unfold word_at in ap to_nat (search rules)) q.invariant
    c.look_side-l.ensures (c.join-r.ensures length_told)
    )
