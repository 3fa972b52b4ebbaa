use native.Mathlib.Omega.{arith}
use mathlib.Core.Path.{◌≡◌, refl, sym, ◌∙◌}
use Rattle.graph.specs.Basic.{all_below}
use Rattle.graph.specs.State.{node_count}
use Rattle.graph.specs.Sound.{node_sound}
use Rattle.graph.specs.Layout.{state_of}
use Rattle.graph.specs.Form.{Laid}
use Rattle.graph.specs.laws.Scan.{all_more, all-fails}
use Rattle.node_tests.specs.laws.Marks.{marks-none}
use borrow.Author.Rules.{rules}
use Rattle.node_tests.proofs.nodes.nodes_sound.Goals as goal

pub loop-n-init : goal.loop-n-init
unfolding all_below Laid
loop-n-init c = (refl, marks-none (state_of c.args.b.now) 8192 1024 (omega arith) (omega arith), refl, refl)

pub loop-n-preserved : goal.loop-n-preserved
loop-n-preserved c = let a = c.loop-n in
    let r = c.node_sound in
    (all_more _ _ a.invariant.0 (sym r.ensures.0 ∙ c.if-not-node_sound.false), r.ensures.1, search rules, search rules)

pub returns-then-not-node_sound : goal.returns-then-not-node_sound
returns-then-not-node_sound c = let x = state_of c.args.b.now in
    let a = c.loop-n in
    sym (all-fails (node_sound x) (node_count x) a.n (omega arith) (sym c.node_sound.ensures.0 ∙ c.if-not-node_sound.true))

pub returns : goal.returns
returns c = let x = state_of c.args.b.now in
    let z : c.loop-n.n ≡ node_count x = omega arith in
    rw (← z) (sym c.loop-n.invariant.0)
