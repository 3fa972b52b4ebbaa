use Rattle.std.proofs.Common.{sym, ◌∙◌, arith}
use Rattle.tablecheck.specs.laws.File.{Fits, sizes-fit}
use Rattle.tablecheck.proofs.counted.Goals as goal

pub words_of-requires : goal.words_of-requires
words_of-requires g c =
    let f : Fits c.args.v c.args.e c.args.k c.args.n = sizes-fit _ _ _ _ (sym c.sizes_fit.ensures ∙ c.if-not-sizes_fit.false) in
    omega arith

pub sized-requires : goal.sized-requires
sized-requires g c =
    let f : Fits c.args.v c.args.e c.args.k c.args.n = sizes-fit _ _ _ _ (sym c.sizes_fit.ensures ∙ c.if-not-sizes_fit.false) in
    (omega arith, omega arith, omega arith, omega arith)
