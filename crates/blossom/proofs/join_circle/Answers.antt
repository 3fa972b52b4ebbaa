use mathlib.Core.Path.{sym, ◌∙◌}
use mathlib.Core.List.{map}
use Rattle.graph.specs.Word.{to_nat}
use Rattle.pass.proofs.laws.Scratch.{scratch-same}
use Rattle.blossom.specs.laws.Blossom.{circle-joined}
use Rattle.blossom.proofs.join_circle.Goals as goal

pub join_members-count-requires : goal.join_members-count-requires
join_members-count-requires c = let p = c.prepare_members-kept.ensures in
    (p.0.formed, p.1 ∙ c.requires.1 ∙ scratch-same p.0, p.2, c.requires.3 ∙ sym p.0.nodes)

pub returns : goal.returns
returns c = let p = c.prepare_members-kept.ensures in
    let r = c.join_members-count.ensures in
    (circle-joined _ (map to_nat c.args.circle.now) c.requires.3 p.0 r.0, r.1, p.3)
