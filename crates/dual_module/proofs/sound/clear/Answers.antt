use mathlib.Core.Path.{refl}
use Rattle.memory_tests.specs.laws.Memory.{memory-accepted}
use Rattle.dual_module.proofs.laws.Called.{call-cleared}
use borrow.Author.Rules.{rules}
use Rattle.dual_module.proofs.sound.clear.Goals as goal

pub clear_all-requires : goal.clear_all-requires
clear_all-requires c =
    (memory-accepted c.args.b.now c.args.t.now c.requires).formed

pub returns : goal.returns
returns c =
    let p = c.clear_all.ensures in
    call-cleared refl c.requires c.args.b.now p.0 p.1 p.2.formed p.2.len
