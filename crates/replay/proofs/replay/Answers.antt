use Rattle.std.proofs.Common.{◌≡◌, ◌≤◌, ℕ, List, length, arith}
use Rattle.records.specs.Run.{lines_in, fitted_lines}
use Rattle.records.specs.laws.Lines.{fitting-le}
use Rattle.replay.proofs.replay.Goals as goal

-- what is written fits
fitted : (b : List ℕ) (space : ℕ) {k : ℕ} → k ≡ length (fitted_lines b space) → k ≤ space
unfolding fitted_lines
fitted b space e = rw e (fitting-le space (lines_in b))

pub slice_bounds-eq-end : goal.slice_bounds-eq-end
slice_bounds-eq-end c =
    let k = c.cardrun_lines-k in
    omega (arith, k.auto.lines, fitted c.args.records.now (length c.args.lines.now) k.ensures.count)
