use Rattle.std.proofs.Common.{refl}
use Rattle.std.proofs.lemmas.Result.{err_from_is_err_and}
use Rattle.refusal.specs.Refusal.{number-some}
use Rattle.remove.specs.laws.Call.{removal-first, removal-inside, removal-class, removal-short, removal-not}
use Rattle.graph.specs.Layout.{state_of}
use mathlib.Core.Path.{sym, ◌∙◌}
use Rattle.remove.proofs.remove_refusal.Goals as goal

pub returns-in_err-node_refusal : goal.returns-in_err-node_refusal
returns-in_err-node_refusal c =
    let p = err_from_is_err_and c.from_residual.result c.from_residual.ensures.1 in
    rw (p.1, p.2)
    (removal-first (state_of c.args.b.now) c.args.n c.in_err-node_refusal.ensures (number-some _))

pub is_bare-requires : goal.is_bare-requires
is_bare-requires c =
    (c.requires, removal-inside (state_of c.args.b.now) c.args.n c.in_ok-node_refusal.ensures refl)

pub store_short-requires : goal.store_short-requires
store_short-requires c = (
  c.requires,
  removal-inside (state_of c.args.b.now) c.args.n c.in_ok-node_refusal.ensures
      refl,
)

pub returns-then-store_short : goal.returns-then-store_short
returns-then-store_short c =
    removal-short (state_of c.args.b.now) c.args.n
    c.in_ok-node_refusal.ensures refl
    (sym c.is_bare.ensures ∙ c.if-is_bare.true)
    (sym c.store_short.ensures ∙ c.if-store_short.true)

pub returns-then-is_bare : goal.returns-then-is_bare
returns-then-is_bare c =
    removal-not (state_of c.args.b.now) c.args.n c.in_ok-node_refusal.ensures
    refl
    (sym c.is_bare.ensures ∙ c.if-is_bare.true)
    (sym c.store_short.ensures ∙ c.if-store_short.false)

pub returns : goal.returns
returns c =
    removal-class (state_of c.args.b.now) c.args.n c.in_ok-node_refusal.ensures
    refl (sym c.is_bare.ensures ∙ c.if-is_bare.false)
