use Rattle.node_tests.specs.laws.Marks.{marked-none, marked_more, marked-fails, marked_all}
use Rattle.graph.specs.laws.Scan.{and-false, list-more, list-fails, list_done}
use Rattle.graph.specs.laws.Stamp.{overgrown-count}
use Rattle.graph.specs.inner.Scans.{vertex_held, overgrown_vertices}
use Rattle.graph.specs.Sound.{over_sound}
use Rattle.graph.specs.State.{vertex_holder_at, overgrown_of}
use lib.Dec.{eqb}
use Rattle.graph.specs.Layout.{overgrown_from, state_of, state_from}
use Rattle.graph.specs.Basic.{all}
use Rattle.graph.specs.Form.{Laid}
use lib.ListN.{length, get_or, length-set}
use Prim.Native.Nat.{◌+◌, ◌<◌, ◌≤◌}
use mathlib.Core.Bool.{true, false, ◌&&◌, not}
use mathlib.Core.Path.{◌≡◌, refl, sym, ap, ◌∙◌}
use native.Mathlib.Omega.{arith}
use borrow.Author.Rules.{rules}
use Rattle.node_tests.proofs.own_lists.overgrown_own.Goals as goal

pub loop-i-init : goal.loop-i-init
unfolding all
loop-i-init c = (refl, marked-none _ _ _ _ c.requires.6, refl)

pub vertex_at-v-requires : goal.vertex_at-v-requires
vertex_at-v-requires c = let b = c.args.b.now in
    let n = c.args.n in
    (c.requires.0, c.requires.1, c.requires.2, search rules, c.requires.3, sym c.entry_sound.ensures ∙ c.if-not-entry_sound.false)

pub overflow_add-n : goal.overflow_add-n
unfolding Laid
overflow_add-n c = search rules

pub holds-requires : goal.holds-requires
unfolding Laid
holds-requires c = let b = c.args.b.now in
    let n = c.args.n in
    (omega (arith, c.vertex_at-v.ensures.1, c.requires.4.size), omega arith)

pub bounds-marks-v : goal.bounds-marks-v
bounds-marks-v c = let b = c.args.b.now in
    let n = c.args.n in
    omega (arith, c.vertex_at-v.ensures.1, c.loop-i.invariant.2, c.requires.5)

pub bounds-marks-v-then-holds-marks : goal.bounds-marks-v-then-holds-marks
bounds-marks-v-then-holds-marks c = let b = c.args.b.now in
    let n = c.args.n in
    omega (arith, c.vertex_at-v.ensures.1, c.loop-i.invariant.2, c.requires.5)

pub loop-i-preserved : goal.loop-i-preserved
unfolding state_of state_from
loop-i-preserved c = let b = c.args.b.now in
    let n = c.args.n in
    let y = c.vertex_at-v in
    let z : c.holds.result ≡ eqb (vertex_holder_at (state_of b) y.result) (n + 1) =
    c.holds.ensures ∙ ap (λ x. eqb x (n + 1)) (c.requires.4.words y.result y.ensures.1) in
    let e : eqb (vertex_holder_at (state_of b) y.result) (n + 1) && not (eqb (get_or c.loop-i.marks y.result 0) 1) ≡ true = rw (← z) c.if-holds-marks.true in
    let h : c.loop-i.i < length (overgrown_vertices (state_of b) n) =
    omega (
      arith,
      c.loop-i-test.true,
      c.overgrown_len-k.ensures,
      overgrown-count (state_of b) n,
    ) in
    let m : y.result < length c.loop-i.marks = omega (arith, y.ensures.1, c.loop-i.invariant.2, c.requires.5) in
    let o = sym c.entry_sound.ensures ∙ c.if-not-entry_sound.false in (
      list-more (over_sound (state_of b)) (overgrown_of (state_of b) n) c.loop-i.i (overgrown_from 0)
          (omega (arith, h, overgrown-count (state_of b) n)) c.loop-i.invariant.0 o,
      marked_more (vertex_holder_at (state_of b)) n (overgrown_vertices (state_of b) n) c.loop-i.i c.loop-i.marks
          c.loop-i.invariant.1 y.result h y.ensures.0 m e,
      simp (length-set) c.loop-i.invariant.2,
    )

pub returns-else-holds-marks : goal.returns-else-holds-marks
unfolding vertex_held state_of state_from
returns-else-holds-marks c = let b = c.args.b.now in
    let n = c.args.n in
    let y = c.vertex_at-v in
    let z : c.holds.result ≡ eqb (vertex_holder_at (state_of b) y.result) (n + 1) =
    c.holds.ensures ∙ ap (λ x. eqb x (n + 1)) (c.requires.4.words y.result y.ensures.1) in
    let e : eqb (vertex_holder_at (state_of b) y.result) (n + 1) && not (eqb (get_or c.loop-i.marks y.result 0) 1) ≡ false = rw (← z) c.if-holds-marks.false in
    let h : c.loop-i.i < length (overgrown_vertices (state_of b) n) =
    omega (
      arith,
      c.loop-i-test.true,
      c.overgrown_len-k.ensures,
      overgrown-count (state_of b) n,
    ) in
    let m : y.result < length c.loop-i.marks = omega (arith, y.ensures.1, c.loop-i.invariant.2, c.requires.5) in
    let f =
    marked-fails (vertex_holder_at (state_of b)) n (overgrown_vertices (state_of b) n) c.loop-i.i c.loop-i.marks
    c.loop-i.invariant.1 y.result h y.ensures.0 m e in
    (rw (← f) (sym (and-false (all (over_sound (state_of b)) (overgrown_of (state_of b) n)))), c.loop-i.invariant.1.later)

pub returns-then-not-entry_sound : goal.returns-then-not-entry_sound
returns-then-not-entry_sound c = let b = c.args.b.now in
    let n = c.args.n in
    let e = sym c.entry_sound.ensures ∙ c.if-not-entry_sound.true in
    let f : all (over_sound (state_of b)) (overgrown_of (state_of b) n) ≡ false =
    list-fails (over_sound (state_of b)) (overgrown_of (state_of b) n) c.loop-i.i (overgrown_from 0)
    (omega (arith, c.loop-i-test.true, c.overgrown_len-k.ensures)) e in
    (rw f, c.loop-i.invariant.1.later)

pub returns : goal.returns
unfolding vertex_held
returns c = let b = c.args.b.now in
    let n = c.args.n in
    let h : length (overgrown_of (state_of b) n) ≤ c.loop-i.i = omega (arith, c.loop-i-test.false, c.overgrown_len-k.ensures) in
    let f : all (over_sound (state_of b)) (overgrown_of (state_of b) n) ≡ true =
    sym (list_done (over_sound (state_of b)) (overgrown_of (state_of b) n) c.loop-i.i h c.loop-i.invariant.0) in (
      rw f
          (marked_all (vertex_holder_at (state_of b)) n (overgrown_vertices (state_of b) n) c.loop-i.i c.loop-i.marks
          c.loop-i.invariant.1 (omega (arith, h, overgrown-count (state_of b) n))),
      c.loop-i.invariant.1.later,
    )
