use Rattle.block_rows.proofs.Signed.{read-asks, read-value}
use Rattle.block_rows.proofs.row_words.plain.Goals as goal

pub overflow_cast-result : goal.overflow_cast-result
overflow_cast-result c = read-asks c.args.x c.ranges.x c.requires

pub returns : goal.returns
returns c = read-value c.args.x c.ranges.x c.requires
