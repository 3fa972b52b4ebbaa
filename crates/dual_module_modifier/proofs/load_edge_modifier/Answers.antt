use Rattle.std.proofs.Common.{refl}
use Rattle.std.proofs.lemmas.Result.{err_from_is_err_and}
use Rattle.refusal.specs.Refusal.{number-some}
use mathlib.Core.Path.{sym, ◌∙◌}
use Rattle.calls.specs.Erasures.{pairs_from}
use Rattle.edge_modifier.specs.laws.Load.{load-refused}
use Rattle.dual_module.proofs.laws.Called.{lent-refused, call_same}
use Rattle.dual_module_modifier.specs.laws.Called.{pairs-lendable, call-loaded}
use borrow.Author.Rules.{rules}
use Rattle.dual_module_modifier.proofs.load_edge_modifier.Goals as goal

pub returns-in_err-refusal : goal.returns-in_err-refusal
returns-in_err-refusal c =
    let p = err_from_is_err_and c.from_residual.result c.from_residual.ensures.1 in
    rw (p.1, p.2)
    (lent-refused c.in_err-refusal.ensures (number-some _) c.args.b.now _ _)

pub modifier_refusal-requires : goal.modifier_refusal-requires
modifier_refusal-requires c =
    (pairs-lendable c.args.b.now c.args.t.now _ c.in_ok-refusal.ensures refl).formed

pub returns-in_err-modifier_refusal : goal.returns-in_err-modifier_refusal
returns-in_err-modifier_refusal c =
    let p = err_from_is_err_and c.from_residual-in_err-modifier_refusal.result c.from_residual-in_err-modifier_refusal.ensures.1 in
    rw (p.1, p.2)
    (let m = c.in_ok-refusal.ensures in
    call_same m refl c.args.b.now
    (load-refused c.args.b.now (pairs_from c.args.pairs.now) _ c.in_err-modifier_refusal.ensures
    (pairs-lendable c.args.b.now c.args.t.now _ m refl).formed (number-some _)))

pub load_edge_modifier-requires : goal.load_edge_modifier-requires
load_edge_modifier-requires c =
    let m = c.in_ok-refusal.ensures in
    ((pairs-lendable c.args.b.now c.args.t.now _ m refl).formed, sym c.in_ok-modifier_refusal.ensures ∙ refl)

pub returns : goal.returns
returns c =
    let m = c.in_ok-refusal.ensures in
    let p = c.load_edge_modifier.ensures in
    call-loaded m refl c.args.b.now c.args.pairs.now
    (sym c.in_ok-modifier_refusal.ensures ∙ refl) p.0 p.1
