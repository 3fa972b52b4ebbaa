use native.Mathlib.Omega.{arith}
use mathlib.Core.Path.{sym, ◌∙◌}
use Rattle.shrink_pass.specs.laws.Shrink.{does-end-free, does-end-note, end-room}
use Rattle.shrink_pass.proofs.shrink.note_end.Goals as goal

pub note-requires : goal.note-requires
note-requires c = let v = c.end-v in (
  omega arith,
  end-room c.requires.0 c.args.s v.result v.ensures.0 v.ensures.1
      (λ z. c.if-holder-eq0.false (c.holder.ensures.0 ∙ z)) c.requires.2 c.requires.3,
  omega arith,
)

pub returns-then-holder-eq0 : goal.returns-then-holder-eq0
returns-then-holder-eq0 c =
    does-end-free c.requires.0 c.args.s _ c.end-v.ensures.0 (sym c.holder.ensures.0 ∙ c.if-holder-eq0.true)

pub returns-else-holder-eq0 : goal.returns-else-holder-eq0
returns-else-holder-eq0 c = let v = c.end-v in
    let x = c.set_holder.ensures in
    does-end-note c.requires.0 c.args.s v.result v.ensures.0 (λ z. c.if-holder-eq0.false (c.holder.ensures.0 ∙ z)) x
    (λ q. c.note.ensures _ (rw x.vertices v.ensures.1) q)
