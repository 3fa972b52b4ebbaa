use lib.ListN.{take}
use Rattle.records.specs.Text.{spaced}
use Rattle.records.specs.Write.{Written}
use Rattle.records.proofs.text.numbers.Given as goal

abbrev pub invariant-loop-x : goal.invariant-loop-x
invariant-loop-x l = Written l.initial.t l.n l.t l.m (spaced (take l.x-index l.ns))
