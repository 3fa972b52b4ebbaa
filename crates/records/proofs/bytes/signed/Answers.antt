use Prim.Native.Nat.{◌-◌, ◌<◌}
use native.Mathlib.Omega.{arith}
use borrow.Author.Tests.{lt-ltb, le-ltb}
use lib.IntN.{negsuc}
use mir.Syntax.{w64}
use mir.Facts.{to_z_pos, to_z-of_z}
use Rattle.records.specs.Record.{signed}
use Rattle.records.proofs.Signed.{flip-pos}
use borrow.Author.Rules.{rules}
use Rattle.records.proofs.bytes.signed.Goals as goal

pub overflow_sub-result-else-x-lt2147483648 : goal.overflow_sub-result-else-x-lt2147483648
overflow_sub-result-else-x-lt2147483648 c =
    let h : 4294967295 - c.args.x < 9223372036854775808 = omega arith in
    rw (to_z_pos w64 h, flip-pos) (record { sfits = omega arith })

pub returns-then-x-lt2147483648 : goal.returns-then-x-lt2147483648
unfolding signed
returns-then-x-lt2147483648 c = rw (lt-ltb _ _ c.if-x-lt2147483648.true) (to_z_pos w64 (omega arith))

pub returns-else-x-lt2147483648 : goal.returns-else-x-lt2147483648
unfolding signed
returns-else-x-lt2147483648 c =
    let h : 4294967295 - c.args.x < 9223372036854775808 = omega arith in
    rw (le-ltb _ _ c.if-x-lt2147483648.false, to_z_pos w64 h, flip-pos) (to_z-of_z {w = w64} {z = negsuc (4294967295 - c.args.x)} (record { sfits = omega arith }))
