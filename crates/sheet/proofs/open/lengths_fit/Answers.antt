use native.Mathlib.Omega.{arith}
use Rattle.graph.specs.Opening.{fits}
use Rattle.graph.specs.laws.Size.{sizes-in}
use Rattle.sheet.proofs.open.lengths_fit.Goals as goal

pub scratch_length-requires : goal.scratch_length-requires
scratch_length-requires c = let s = sizes-in _ _ _ _ c.requires in omega arith

pub returns : goal.returns
unfolding fits
returns c = cc
