use native.Mathlib.Omega.{arith}
use Rattle.graph.specs.laws.Size.{sizes-in}
use Rattle.graph.proofs.sizes.block_length.Goals as goal

pub overflow_mul-result : goal.overflow_mul-result
overflow_mul-result c = let s = sizes-in _ _ _ _ c.requires in omega arith

pub overflow_add-result : goal.overflow_add-result
overflow_add-result c = let s = sizes-in _ _ _ _ c.requires in omega arith

pub overflow_mul-result-2 : goal.overflow_mul-result-2
overflow_mul-result-2 c = let s = sizes-in _ _ _ _ c.requires in omega arith

pub overflow_add-result-2 : goal.overflow_add-result-2
overflow_add-result-2 c = let s = sizes-in _ _ _ _ c.requires in omega arith

pub overflow_mul-result-3 : goal.overflow_mul-result-3
overflow_mul-result-3 c = let s = sizes-in _ _ _ _ c.requires in omega arith

pub overflow_add-result-3 : goal.overflow_add-result-3
overflow_add-result-3 c = let s = sizes-in _ _ _ _ c.requires in omega arith

pub overflow_add-result-4 : goal.overflow_add-result-4
overflow_add-result-4 c = let s = sizes-in _ _ _ _ c.requires in omega arith
