use Rattle.graph.specs.Layout.{state_of, state_from}
use Rattle.graph.specs.Sound.{side_sound, node_or_none, stored_defect}
use Rattle.graph.specs.Open.{growth_limit}
use Rattle.graph.specs.State.{node_count, growth_at, holder_at, grandson_at}
use Rattle.graph_tests.specs.laws.Range.{side-free, side-held, side-out}
use lib.Dec.{leb, eqb}
use mathlib.Core.Path.{◌≡◌, sym, ap, ◌∙◌}
use Rattle.graph_tests.proofs.sides.side_sound.Goals as goal

pub returns-then-holds : goal.returns-then-holds
unfolding side_sound node_or_none state_of state_from
returns-then-holds c = let s = c.args.s in
    let r = c.requires.2 in
    let z = state_of c.args.b.now in
    let k : c.node_count-c.result ≡ node_count z = c.node_count-c.ensures.0 in
    let g : c.at_most-g.result ≡ leb (growth_at z s) growth_limit =
    c.at_most-g.ensures ∙ ap (λ n. leb n growth_limit) (r.growths.words s c.requires.1) in
    let x : c.at_most-x.result ≡ leb (grandson_at z s) (node_count z) =
    c.at_most-x.ensures ∙ rw (k, r.grandsons.words s c.requires.1) in
    let h : c.holds.result ≡ eqb (holder_at z s) 0 = c.holds.ensures ∙ ap (λ n. eqb n 0) (r.holders.words s c.requires.1) in
    side-free (growth_at z s) (holder_at z s) (grandson_at z s) (node_count z) (stored_defect z (grandson_at z s))
    (rw (← g, ← x) c.if-g-x.true) (sym h ∙ c.if-holds.true)

pub returns-else-holds : goal.returns-else-holds
unfolding side_sound node_or_none state_of state_from
returns-else-holds c = let s = c.args.s in
    let r = c.requires.2 in
    let z = state_of c.args.b.now in
    let k : c.node_count-c.result ≡ node_count z =
    c.node_count-c.ensures.0 in
    let g : c.at_most-g.result ≡ leb (growth_at z s) growth_limit =
    c.at_most-g.ensures ∙ ap (λ n. leb n growth_limit) (r.growths.words s c.requires.1) in
    let x : c.at_most-x.result ≡ leb (grandson_at z s) (node_count z) =
    c.at_most-x.ensures ∙ rw (k, r.grandsons.words s c.requires.1) in
    let h : c.holds.result ≡ eqb (holder_at z s) 0 =
    c.holds.ensures ∙ ap (λ n. eqb n 0) (r.holders.words s c.requires.1) in
    let o : c.at_most.result ≡ leb (holder_at z s) (node_count z) = c.at_most.ensures ∙ rw (k, r.holders.words s c.requires.1) in
    let d : c.stored_defect-d.result ≡ stored_defect z (grandson_at z s) =
    c.stored_defect-d.ensures ∙ ap (stored_defect z) (c.number.ensures ∙ r.grandsons.words s c.requires.1) in
    rw (o, d)
    (side-held (growth_at z s) (holder_at z s) (grandson_at z s) (node_count z) (stored_defect z (grandson_at z s))
    (rw (← g, ← x) c.if-g-x.true) (sym h ∙ c.if-holds.false))

pub returns-else-g-x : goal.returns-else-g-x
unfolding side_sound node_or_none state_of state_from
returns-else-g-x c = let s = c.args.s in
    let r = c.requires.2 in
    let z = state_of c.args.b.now in
    let k : c.node_count-c.result ≡ node_count z = c.node_count-c.ensures.0 in
    let g : c.at_most-g.result ≡ leb (growth_at z s) growth_limit =
    c.at_most-g.ensures ∙ ap (λ n. leb n growth_limit) (r.growths.words s c.requires.1) in
    let x : c.at_most-x.result ≡ leb (grandson_at z s) (node_count z) = c.at_most-x.ensures ∙ rw (k, r.grandsons.words s c.requires.1) in
    side-out (growth_at z s) (holder_at z s) (grandson_at z s) (node_count z) (stored_defect z (grandson_at z s)) (rw (← g, ← x) c.if-g-x.false)
