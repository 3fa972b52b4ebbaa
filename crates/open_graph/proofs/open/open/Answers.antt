use mathlib.Core.Path.{sym, ◌∙◌}
use Rattle.std.proofs.lemmas.Result.{err_from_is_err_and}
use Rattle.graph.specs.Opening.{edges_from, virtuals_from, fits}
use Rattle.open_graph.specs.laws.OpenedBlock.{open-accepted, opened-block, refused-block}
use Rattle.refusal.specs.Refusal.{number-some}
use Rattle.open_graph.proofs.open.open.Goals as goal

pub returns-in_err-refusal : goal.returns-in_err-refusal
returns-in_err-refusal c =
    let a = c.args in
    let p = err_from_is_err_and c.from_residual.result c.from_residual.ensures.1 in (
      rw (p.1, p.2) c.in_err-refusal.ensures,
      sym
          (refused-block a.v a.e a.n a.l (edges_from a.edges.now) (virtuals_from a.virtuals.now)
          (fits a.b.now a.t.now a.v a.e a.n a.l) a.b.now
          (λ q. number-some _ (c.in_err-refusal.ensures ∙ q))),
    )

pub write-requires : goal.write-requires
write-requires c =
    let a = c.args in
    open-accepted a.v a.e a.n a.l (edges_from a.edges.now) (virtuals_from a.virtuals.now) a.b.now
    a.t.now (sym c.in_ok-refusal.ensures)

pub returns : goal.returns
returns c =
    let a = c.args in (
      c.in_ok-refusal.ensures,
      c.write.ensures
          ∙ sym
          (opened-block a.v a.e a.n a.l (edges_from a.edges.now) (virtuals_from a.virtuals.now)
          (fits a.b.now a.t.now a.v a.e a.n a.l) a.b.now (sym c.in_ok-refusal.ensures)),
    )
