use Prim.Native.Nat.{◌*◌}
use Rattle.c_api_calls.specs.laws.Run.{stepped-at, part_length}
use borrow.Author.Rules.{rules}
use Rattle.c_api_calls.proofs.step_at.Goals as goal

pub step-requires : goal.step-requires
step-requires c =
    let p = c.requires in
    (p.0, p.1, p.2, part_length c.args.words.now (4 * c.args.s.made) 4 p.3, part_length c.args.answers.now (5 * c.args.s.made) 5 p.4)

pub returns : goal.returns
returns c =
    let r = c.step in
    (stepped-at c.args.words.now c.args.circles.now c.args.s.made (search rules) r.ensures.0, r.ensures.1, r.ensures.2)
