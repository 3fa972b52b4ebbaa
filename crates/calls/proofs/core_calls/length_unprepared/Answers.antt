use mathlib.Core.Path.{◌∙◌}
use Rattle.std.proofs.lemmas.Result.{err_from_is_err_and}
use Rattle.refusal.specs.Refusal.{number-some}
use mathlib.Core.Path.{refl}
use Rattle.std.specs.Prelude.{false}
use Rattle.calls.proofs.laws.Replies.{length-refused, length-accepted, length-plain, sound-scanned}
use Rattle.calls.proofs.core_calls.length_unprepared.Goals as goal

pub returns-in_err-node_refusal : goal.returns-in_err-node_refusal
returns-in_err-node_refusal c =
    let p = err_from_is_err_and c.from_residual.result c.from_residual.ensures.1 in
    rw (p.1, p.2)
    (length-refused c.requires.0 c.args.n c.args.d _ false c.in_err-node_refusal.ensures (number-some _))

pub scan-requires : goal.scan-requires
scan-requires c =
    let a =
    length-accepted c.requires.0 c.args.n c.args.d _ false c.in_ok-node_refusal.ensures refl in
    let q = sound-scanned c.requires.0 c.requires.1 c.args.n a.inside in
    (c.requires.0, q.0, a.inside, q.1)

pub returns : goal.returns
returns c =
    length-plain c.requires.0 c.args.n c.args.d _ false c.in_ok-node_refusal.ensures refl
    refl (c.answered.ensures ∙ c.scan.ensures)
