use borrow.Author.Rules.{sfits_of}
use Rattle.block_rows.proofs.Signed.{read-most}
use Rattle.block_rows.proofs.row_words.small.Goals as goal

pub returns : goal.returns
returns c =
    read-most c.args.x c.ranges.x c.args.m c.to_word.result
    (sfits_of c.to_word.type_inv) c.to_word.ensures c.requires
