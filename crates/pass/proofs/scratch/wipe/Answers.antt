use borrow.Rule.Slice.PartMut.{mid_len}
use Rattle.std.proofs.Common.{arith, ◌+◌, ◌-◌, ◌≡◌, ◌∙◌, ap, sym, pos}
use Rattle.std.specs.Prelude.{replicate}
use Rattle.std.proofs.lemmas.List.{length-replicate}
use Rattle.std.proofs.lemmas.Slice.{put_mid-paste}
use Rattle.pass.proofs.laws.Scratch.{wiped-paste}
use Rattle.pass.proofs.scratch.wipe.Goals as goal

pub returns : goal.returns
returns c =
    let a = c.args in
    let size : a.p + a.n - a.p ≡ a.n = omega arith in
    let zeros = ap (λ k. replicate k (pos 0)) (mid_len a.p (a.p + a.n) a.t.now c.requires ∙ size) in
    put_mid-paste a.p _ a.t.now _ (replicate a.n (pos 0)) a.n (c.fill.ensures.after (λ y e. e) ∙ zeros) (sym size)
    (sym (length-replicate a.n (pos 0)))
    ∙ sym (wiped-paste a.t.now a.p a.n c.requires)
