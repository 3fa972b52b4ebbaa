use Rattle.block_rows.proofs.Signed.{read_same}
use Rattle.block_rows.proofs.row_words.same.Goals as goal

pub returns : goal.returns
returns c = read_same c.args.x c.ranges.x c.args.m c.to_word.result c.to_word.ensures c.requires
