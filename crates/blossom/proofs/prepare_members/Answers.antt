use borrow.Author.Rules.{rules}
use native.Mathlib.Omega.{arith}
use Prim.Native.Nat.{◌≤◌, ◌<◌}
use mathlib.Core.Path.{refl, ap, sym, ◌∙◌}
use mathlib.Core.List.{map}
use lib.ListN.{length, length-map}
use Rattle.graph.specs.Word.{to_nat}
use Rattle.graph.specs.laws.Number.{word-entry}
use Rattle.blossom.specs.laws.Blossom.{preparing-none, preparing-ready, preparing-able, preparing-more, preparing-all}
use Rattle.blossom.specs.laws.Keeps.{remains-more, remains-none}
use Rattle.blossom.specs.laws.Circle.{item}
use Rattle.blossom.proofs.prepare_members.Goals as goal

pub loop-word-init : goal.loop-word-init
loop-word-init c = (preparing-none c.requires.0 c.requires.1 c.requires.2, refl)

pub prepare_asked-p-requires : goal.prepare_asked-p-requires
prepare_asked-p-requires c = let d = c.loop-word in
    let l = c.args.circle.now in
    let h : d.word-index < length (map to_nat l) = rw (length-map l to_nat) (omega arith) in
    let e = item c.args.circle.now c.loop-word.word-index c.to_nat-m.ensures.0 (search rules)
    ∙ word-entry l d.word-index in
    (preparing-ready d.invariant.0 c.to_nat-m.result h e, preparing-able d.invariant.0 c.to_nat-m.result h e)

pub loop-word-preserved : goal.loop-word-preserved
loop-word-preserved c = let d = c.loop-word in
    let l = c.args.circle.now in
    let r = c.prepare_asked-p.ensures in
    let h : d.word-index < length (map to_nat l) = rw (length-map l to_nat) (omega arith) in
    let e = item c.args.circle.now c.loop-word.word-index c.to_nat-m.ensures.0 (search rules)
    ∙ word-entry l d.word-index in (
      preparing-more d.invariant.0 c.to_nat-m.result h e r.0 r.2,
      remains-more c.args.ask d.kept _ _ _
          (map to_nat l) d.word-index c.to_nat-m.result h e d.invariant.1 r.3 r.0.block.state,
    )

pub shape_of-b : goal.shape_of-b
shape_of-b c = c.loop-word.invariant.0.block.len

pub shape_of-t : goal.shape_of-t
shape_of-t c = ap length (c.loop-word.invariant.0.scratch ∙ sym c.requires.1)

pub returns : goal.returns
returns c =
    let q = c.loop-word.invariant in
    let l = c.args.circle.now in
    let h : length (map to_nat l) ≤ c.loop-word.word-index = rw (length-map l to_nat) (omega arith) in (
      preparing-all q.0 h,
      q.0.scratch ∙ sym c.requires.1,
      q.0.joinable,
      remains-none c.args.ask c.loop-word.kept _ _ (map to_nat l) c.loop-word.word-index h q.1,
    )
