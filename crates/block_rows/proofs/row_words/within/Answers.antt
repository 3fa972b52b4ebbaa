use borrow.Author.Rules.{sfits_of}
use Rattle.block_rows.proofs.Signed.{read-amid}
use Rattle.block_rows.proofs.row_words.within.Goals as goal

pub returns : goal.returns
returns c =
    read-amid c.args.x c.ranges.x c.args.m c.to_word-2.result (sfits_of c.to_word-2.type_inv) c.to_word-2.ensures c.requires.1
    c.args.a c.to_word.result (sfits_of c.to_word.type_inv) c.to_word.ensures
