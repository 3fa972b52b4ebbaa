use mathlib.Core.Path.{◌∙◌}
use Rattle.graph.specs.Layout.{state_of}
use Rattle.pass.specs.KeepsSound.{keeps_sound}
use Rattle.prepare_tested.specs.laws.Testing.{prepare-down-same, to-down, from-down, asked-down, asked-test, not-asked}
use Rattle.prepare_tested.proofs.prepare_asked.Goals as goal

pub prepare_tested-requires : goal.prepare_tested-requires
prepare_tested-requires c = let q = asked-down c.args.ask c.args.d c.if-ask-d.true in
    (c.requires.0, to-down c.args.d q c.requires.1)

pub returns-then-ask-d : goal.returns-then-ask-d
returns-then-ask-d c = let p = c.prepare_tested.ensures in
    let q = asked-down c.args.ask c.args.d c.if-ask-d.true in (
      rw (prepare-down-same c.args.d q (state_of c.args.b.now) c.args.n) p.0,
      p.1,
      from-down c.args.d q p.2,
      p.3
          ∙ asked-test c.args.ask c.args.d (keeps_sound (state_of c.args.b.now) c.args.n)
          c.if-ask-d.true,
    )

pub returns : goal.returns
returns c = let p = c.prepare_dual_node_growth-passes.ensures in (
  p.0,
  p.1,
  p.2,
  not-asked c.args.ask c.args.d (keeps_sound (state_of c.args.b.now) c.args.n) c.if-ask-d.false,
)
