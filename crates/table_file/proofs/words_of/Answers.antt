use native.Mathlib.Omega.{arith}
use mathlib.Core.Path.{refl}
use native.Mathlib.Nat.{mul-le-mul}
use Prim.Native.Nat.{◌*◌, ◌≤◌}
use Rattle.table_file.specs.File.{file_words}
use Rattle.table_file.proofs.words_of.Goals as goal

pub overflow_mul-result-3 : goal.overflow_mul-result-3
overflow_mul-result-3 c = let q : c.args.n * c.args.v ≤ 1024 * 1024 = mul-le-mul c.requires.3 c.requires.0 in record { fits = omega arith }

pub overflow_add-result-4 : goal.overflow_add-result-4
overflow_add-result-4 c = let q : c.args.n * c.args.v ≤ 1024 * 1024 = mul-le-mul c.requires.3 c.requires.0 in record { fits = omega arith }

pub returns : goal.returns
unfolding file_words
returns c = refl
