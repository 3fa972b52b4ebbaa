use native.Mathlib.Omega.{arith}
use mathlib.Core.Path.{sym}
use Rattle.records.specs.laws.Decode.{fields-none}
use Rattle.records.specs.Record.{field_counts}
use Rattle.records.proofs.record.field_count.Goals as goal

pub returns-in-1 : goal.returns-in-1
unfolding field_counts
returns-in-1 c = cc

pub returns-in-2 : goal.returns-in-2
unfolding field_counts
returns-in-2 c = cc

pub returns-in-3 : goal.returns-in-3
unfolding field_counts
returns-in-3 c = cc

pub returns-in-4 : goal.returns-in-4
unfolding field_counts
returns-in-4 c = cc

pub returns-in-5 : goal.returns-in-5
unfolding field_counts
returns-in-5 c = cc

pub returns-in-6 : goal.returns-in-6
unfolding field_counts
returns-in-6 c = cc

pub returns-in-7 : goal.returns-in-7
unfolding field_counts
returns-in-7 c = cc

pub returns-in-8 : goal.returns-in-8
unfolding field_counts
returns-in-8 c = cc

pub returns-in-9 : goal.returns-in-9
unfolding field_counts
returns-in-9 c = cc

pub returns-in-11 : goal.returns-in-11
unfolding field_counts
returns-in-11 c = cc

pub returns-in_default : goal.returns-in_default
returns-in_default c =
    sym
    (fields-none c.args.kind (omega arith) (omega arith) (omega arith) (omega arith) (omega arith) (omega arith)
    (omega arith) (omega arith) (omega arith) (omega arith))
