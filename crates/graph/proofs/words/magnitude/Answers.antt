use mathlib.Core.Path.{ap}
use native.Mathlib.Omega.{arith}
use lib.IntN.{nat_abs}
use mir.Facts.{to_z-of_z}
use Rattle.graph.proofs.Magnitude.{read-flipped, read_plain}
use Rattle.graph.proofs.words.magnitude.Goals as goal

pub overflow_sub-result : goal.overflow_sub-result
overflow_sub-result c = (read-flipped c.args.x c.ranges.x c.if-x-lt0.true).fits

pub overflow_cast-result : goal.overflow_cast-result
overflow_cast-result c =
    let f = read-flipped c.args.x c.ranges.x c.if-x-lt0.true in
    rw (to_z-of_z f.fits) (f.is_pos, record { fits = omega arith })

pub overflow_add-result : goal.overflow_add-result
overflow_add-result c =
    let f = read-flipped c.args.x c.ranges.x c.if-x-lt0.true in
    rw (to_z-of_z f.fits) (record { fits = omega arith })

pub overflow_cast-result-else-x-lt0 : goal.overflow_cast-result-else-x-lt0
overflow_cast-result-else-x-lt0 c =
    let f = read_plain c.args.x c.ranges.x c.if-x-lt0.false in
    (f.is_pos, record { fits = omega arith })

pub returns-then-x-lt0 : goal.returns-then-x-lt0
returns-then-x-lt0 c =
    let f = read-flipped c.args.x c.ranges.x c.if-x-lt0.true in
    rw (to_z-of_z f.fits) (f.value, omega arith)

pub returns-else-x-lt0 : goal.returns-else-x-lt0
returns-else-x-lt0 c =
    let f = read_plain c.args.x c.ranges.x c.if-x-lt0.false in
    (ap nat_abs (to_z-of_z c.ranges.x), omega arith)
