use mathlib.Core.Bool.{◌&&◌, true, false}
use mathlib.Core.Path.{◌≡◌, refl}
use native.Mathlib.Omega.{arith}
use borrow.Author.Tests.{leb-true}
use lib.Dec.{leb}
use Rattle.graph.specs.laws.State.{and_left, and_right}
use Rattle.graph.specs.Layout.{n_of, count_of, active_count_of, block_sound}
use Rattle.graph.specs.laws.Row.{laid_of}
use Rattle.graph.specs.laws.Size.{sized_of}
use Rattle.memory_tests.proofs.sound.sound.Goals as goal

pub word-c-requires : goal.word-c-requires
word-c-requires c = let z = sized_of c.args.b.now c.requires in omega arith

pub word-a-requires : goal.word-a-requires
word-a-requires c = let z = sized_of c.args.b.now c.requires in omega arith

pub word-n-requires : goal.word-n-requires
word-n-requires c = let z = sized_of c.args.b.now c.requires in omega arith

pub laid_sound-requires : goal.laid_sound-requires
laid_sound-requires c = let b = c.args.b.now in
    let t : leb (count_of b) (n_of b) && leb (active_count_of b) (n_of b) ≡ true =
    rw (c.word-c.ensures.0, c.word-a.ensures.0, c.word-n.ensures.0)
    at c.if-c-n.true in
    laid_of b (sized_of b c.requires)
    (leb-true (count_of b) (n_of b) (and_left (leb (count_of b) (n_of b)) _ t))
    (leb-true (active_count_of b) (n_of b) (and_right (leb (count_of b) (n_of b)) _ t))

pub returns-then-c-n : goal.returns-then-c-n
unfolding block_sound
returns-then-c-n c = let b = c.args.b.now in
    let t : leb (count_of b) (n_of b) && leb (active_count_of b) (n_of b) ≡ true =
    rw (
      c.word-c.ensures.0,
      c.word-a.ensures.0,
      c.word-n.ensures.0,
    )
    at c.if-c-n.true in
    rw t c.laid_sound.ensures

pub returns-else-c-n : goal.returns-else-c-n
unfolding block_sound
returns-else-c-n c = let b = c.args.b.now in
    let t : leb (count_of b) (n_of b) && leb (active_count_of b) (n_of b) ≡ false =
    rw (c.word-c.ensures.0, c.word-a.ensures.0, c.word-n.ensures.0)
    at c.if-c-n.false in
    rw t refl
