use Rattle.memory_tests.specs.laws.Block.{graph-fails}
use Rattle.graph.specs.laws.State.{and_left, and_right}
use Rattle.graph.specs.Basic.{all_below}
use Rattle.graph.specs.State.{vertex_count, edge_count}
use Rattle.graph.specs.Sound.{edge_sound, vertex_sound}
use Rattle.graph.specs.Layout.{e_of, rows_of, row, rising_to, state_of}
use Prim.Native.Nat.{◌*◌}
use mathlib.Core.Bool.{◌&&◌, true}
use mathlib.Core.Path.{◌≡◌, sym, ◌∙◌}
use borrow.Author.Rules.{rules}
use Rattle.graph.specs.Rows.{first_row}
use Rattle.memory_tests.proofs.sound.listed_sound.Goals as goal

pub whole_sound-requires : goal.whole_sound-requires
whole_sound-requires c = let b = c.args.b.now in
    let r = rising_to (row (rows_of b) first_row) (2 * e_of b) in
    let e = all_below (edge_sound (state_of b)) (edge_count (state_of b)) in
    let v = all_below (vertex_sound (state_of b)) (vertex_count (state_of b)) in
    let h : r && (e && v) ≡ true = sym c.graph_sound.ensures ∙ c.if-graph_sound.true in
    let k : e && v ≡ true = and_right r (e && v) h in
    (c.requires.0, c.requires.1, and_left r (e && v) h, and_left e v k, and_right e v k)

pub returns-then-graph_sound : goal.returns-then-graph_sound
returns-then-graph_sound c = let b = c.args.b.now in
    let r = rising_to (row (rows_of b) first_row) (2 * e_of b) in
    let g = all_below (edge_sound (state_of b)) (edge_count (state_of b)) && all_below (vertex_sound (state_of b)) (vertex_count (state_of b)) in
    let h : r ≡ true = and_left r g (sym c.graph_sound.ensures ∙ c.if-graph_sound.true) in
    rw h c.whole_sound.ensures

pub returns-else-graph_sound : goal.returns-else-graph_sound
returns-else-graph_sound c = graph-fails c.args.b.now c.requires.0 c.requires.1 (sym c.graph_sound.ensures ∙ c.if-graph_sound.false)
