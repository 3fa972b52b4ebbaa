use native.Mathlib.Omega.{arith}
use mathlib.Core.Path.{sym, ◌∙◌}
use Rattle.graph.specs.Basic.{all}
use Rattle.graph.specs.State.{overgrown_of}
use Rattle.graph.specs.Sound.{over_sound}
use Rattle.graph.specs.Layout.{overgrown_from, state_of}
use Rattle.graph.specs.laws.Scan.{list-more, list-fails, list_done}
use borrow.Author.Rules.{rules}
use Rattle.node_tests.proofs.node_lists.overgrown_sound.Goals as goal

pub loop-i-init : goal.loop-i-init
unfolding all
loop-i-init c = search rules

pub loop-i-preserved : goal.loop-i-preserved
loop-i-preserved c = let b = c.args.b.now in
    let e = sym c.entry_sound.ensures ∙ c.if-not-entry_sound.false in
    (list-more (over_sound (state_of b)) (overgrown_of (state_of b) c.args.n) c.loop-i.i (overgrown_from 0) (omega arith) c.loop-i.invariant e)

pub returns-then-not-entry_sound : goal.returns-then-not-entry_sound
returns-then-not-entry_sound c = let b = c.args.b.now in
    let e = sym c.entry_sound.ensures ∙ c.if-not-entry_sound.true in
    sym (list-fails (over_sound (state_of b)) (overgrown_of (state_of b) c.args.n) c.loop-i.i (overgrown_from 0) (omega arith) e)

pub returns : goal.returns
returns c = let b = c.args.b.now in
    list_done (over_sound (state_of b)) (overgrown_of (state_of b) c.args.n) c.loop-i.i (omega arith) c.loop-i.invariant
