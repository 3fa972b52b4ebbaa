use Rattle.graph.specs.laws.State.{and_left, and_right}
use Rattle.graph.specs.laws.Scan.{vertices-both}
use Rattle.graph.specs.inner.Scans.{vertex_numbers, wired_at}
use Rattle.graph.specs.Sound.{edge_sound}
use Rattle.graph.specs.Basic.{all_below}
use Rattle.graph.specs.Form.{Laid}
use Rattle.graph.specs.Layout.{e_of, rows_of, row, rising_to, state_of}
use Rattle.graph.specs.State.{vertex_count, edge_count}
use Rattle.graph_tests.specs.laws.Range.{first-fails}
use Prim.Native.Nat.{◌*◌}
use mathlib.Core.Bool.{true, ◌&&◌}
use mathlib.Core.Path.{◌≡◌, sym, ◌∙◌}
use native.Mathlib.Omega.{arith}
use borrow.Author.Rules.{rules}
use Rattle.graph.specs.Rows.{first_row}
use Rattle.graph_tests.proofs.graph_sound.Goals as goal

pub vertices_sound-requires : goal.vertices_sound-requires
unfolding Laid
vertices_sound-requires c = (c.requires, omega arith)

pub wired-requires : goal.wired-requires
unfolding Laid
wired-requires c = let b = c.args.b.now in
    let w = c.vertices_sound in
    let e = sym w.ensures.0 ∙ c.if-vertices_sound.true in (
      c.requires,
      and_right (all_below (vertex_numbers (state_of b)) (vertex_count (state_of b)))
          (rising_to (row (rows_of b) first_row) (2 * e_of b)) e,
      search rules,
      w.ensures.1 c.if-vertices_sound.true,
    )

pub returns-then-vertices_sound : goal.returns-then-vertices_sound
returns-then-vertices_sound c = let b = c.args.b.now in
    let w = c.vertices_sound in
    let n = all_below (vertex_numbers (state_of b)) (vertex_count (state_of b)) in
    let r = rising_to (row (rows_of b) first_row) (2 * e_of b) in
    let e : n && r ≡ true = sym w.ensures.0 ∙ c.if-vertices_sound.true in
    rw (and_right n r e, vertices-both (state_of b) (vertex_count (state_of b)), and_left n r e) c.wired.ensures

pub returns-else-vertices_sound : goal.returns-else-vertices_sound
returns-else-vertices_sound c = let b = c.args.b.now in
    let w = c.vertices_sound in
    rw (vertices-both (state_of b) (vertex_count (state_of b)))
    (first-fails (all_below (vertex_numbers (state_of b)) (vertex_count (state_of b))) (rising_to (row (rows_of b) first_row) (2 * e_of b))
    (all_below (edge_sound (state_of b)) (edge_count (state_of b))) (all_below (wired_at (state_of b)) (vertex_count (state_of b))) (sym w.ensures.0 ∙ c.if-vertices_sound.false))
