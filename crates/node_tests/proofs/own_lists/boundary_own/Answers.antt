use Rattle.node_tests.specs.laws.Marks.{marked-none, marked_more, marked-fails, marked_all}
use Rattle.graph.specs.laws.Scan.{and-false, list-more, list-fails, list_done}
use Rattle.graph.specs.inner.Form.{sides_ok}
use Rattle.graph.specs.inner.Scans.{side_held}
use Rattle.graph.specs.State.{side_count, holder_at, boundary_of}
use lib.Dec.{ltb, eqb}
use Rattle.graph.specs.Layout.{state_of, state_from}
use Rattle.graph.specs.Basic.{all}
use Rattle.graph.specs.Form.{Laid}
use lib.ListN.{length, get_or, length-set}
use Prim.Native.Nat.{◌+◌, ◌<◌, ◌≤◌}
use mathlib.Core.Bool.{true, false, ◌&&◌, not}
use mathlib.Core.Path.{◌≡◌, refl, sym, ap, ◌∙◌}
use native.Mathlib.Omega.{arith}
use borrow.Author.Rules.{rules}
use Rattle.node_tests.proofs.own_lists.boundary_own.Goals as goal

pub loop-i-init : goal.loop-i-init
unfolding all
loop-i-init c = (refl, marked-none _ _ _ _ c.requires.6, refl)

pub side_at-s-requires : goal.side_at-s-requires
side_at-s-requires c = let b = c.args.b.now in
    let n = c.args.n in
    (c.requires.0, c.requires.1, c.requires.2, search rules, c.requires.3, c.start-a.ensures.0, sym c.is_side.ensures ∙ c.if-not-is_side.false)

pub overflow_add-n : goal.overflow_add-n
unfolding Laid
overflow_add-n c = search rules

pub holds-requires : goal.holds-requires
unfolding Laid
holds-requires c = let b = c.args.b.now in
    let n = c.args.n in
    (omega (arith, c.side_at-s.ensures.1, c.requires.4.size), omega arith)

pub bounds-marks-s : goal.bounds-marks-s
bounds-marks-s c = let b = c.args.b.now in
    let n = c.args.n in
    omega (arith, c.side_at-s.ensures.1, c.loop-i.invariant.2, c.requires.5)

pub bounds-marks-s-then-holds-marks : goal.bounds-marks-s-then-holds-marks
bounds-marks-s-then-holds-marks c = let b = c.args.b.now in
    let n = c.args.n in
    omega (arith, c.side_at-s.ensures.1, c.loop-i.invariant.2, c.requires.5)

pub loop-i-preserved : goal.loop-i-preserved
unfolding state_of state_from
loop-i-preserved c = let b = c.args.b.now in
    let n = c.args.n in
    let y = c.side_at-s in
    let z : c.holds.result ≡ eqb (holder_at (state_of b) y.result) (n + 1) =
    c.holds.ensures ∙ ap (λ x. eqb x (n + 1)) (c.requires.4.words y.result y.ensures.1) in
    let e : eqb (holder_at (state_of b) y.result) (n + 1) && not (eqb (get_or c.loop-i.marks y.result 0) 1) ≡ true = rw (← z) c.if-holds-marks.true in
    let h : c.loop-i.i < length (boundary_of (state_of b) n) =
    omega
    (arith, c.loop-i-test.true, c.boundary_len-k.ensures) in
    let m : y.result < length c.loop-i.marks = omega (arith, y.ensures.1, c.loop-i.invariant.2, c.requires.5) in
    let o = sym c.is_side.ensures ∙ c.if-not-is_side.false in (
      list-more (λ x. ltb x (side_count (state_of b))) (boundary_of (state_of b) n) c.loop-i.i 0 (omega (arith, h)) c.loop-i.invariant.0 o,
      marked_more (holder_at (state_of b)) n (boundary_of (state_of b) n) c.loop-i.i c.loop-i.marks c.loop-i.invariant.1 y.result h y.ensures.0 m e,
      simp (length-set) c.loop-i.invariant.2,
    )

pub returns-else-holds-marks : goal.returns-else-holds-marks
unfolding side_held state_of state_from
returns-else-holds-marks c = let b = c.args.b.now in
    let n = c.args.n in
    let y = c.side_at-s in
    let z : c.holds.result ≡ eqb (holder_at (state_of b) y.result) (n + 1) =
    c.holds.ensures ∙ ap (λ x. eqb x (n + 1)) (c.requires.4.words y.result y.ensures.1) in
    let e : eqb (holder_at (state_of b) y.result) (n + 1) && not (eqb (get_or c.loop-i.marks y.result 0) 1) ≡ false = rw (← z) c.if-holds-marks.false in
    let h : c.loop-i.i < length (boundary_of (state_of b) n) =
    omega
    (arith, c.loop-i-test.true, c.boundary_len-k.ensures) in
    let m : y.result < length c.loop-i.marks = omega (arith, y.ensures.1, c.loop-i.invariant.2, c.requires.5) in
    let f =
    marked-fails (holder_at (state_of b)) n (boundary_of (state_of b) n) c.loop-i.i c.loop-i.marks c.loop-i.invariant.1
    y.result h y.ensures.0 m e in
    (rw (← f) (sym (and-false (sides_ok (state_of b) n))), c.loop-i.invariant.1.later)

pub returns-then-not-is_side : goal.returns-then-not-is_side
unfolding sides_ok
returns-then-not-is_side c = let b = c.args.b.now in
    let n = c.args.n in
    let e = sym c.is_side.ensures ∙ c.if-not-is_side.true in
    let f : sides_ok (state_of b) n ≡ false =
    list-fails (λ x. ltb x (side_count (state_of b))) (boundary_of (state_of b) n) c.loop-i.i 0
    (omega (arith, c.loop-i-test.true, c.boundary_len-k.ensures)) e in
    (rw f, c.loop-i.invariant.1.later)

pub returns : goal.returns
unfolding sides_ok side_held
returns c = let b = c.args.b.now in
    let n = c.args.n in
    let h : length (boundary_of (state_of b) n) ≤ c.loop-i.i = omega (arith, c.loop-i-test.false, c.boundary_len-k.ensures) in
    let f : sides_ok (state_of b) n ≡ true = sym (list_done (λ x. ltb x (side_count (state_of b))) (boundary_of (state_of b) n) c.loop-i.i h c.loop-i.invariant.0) in (
      rw f
          (marked_all (holder_at (state_of b)) n (boundary_of (state_of b) n) c.loop-i.i c.loop-i.marks c.loop-i.invariant.1
          (omega (arith, h))),
      c.loop-i.invariant.1.later,
    )
