use Rattle.std.proofs.lemmas.Result.{err_from_is_err_and}
use Rattle.round_trial.specs.laws.Step.{accepted-number, refused-number, turn-prepared, turn_moved}
use Rattle.round_trial.proofs.trial.call_node.Goals as goal

pub returns-in_err-prepare_toward : goal.returns-in_err-prepare_toward
returns-in_err-prepare_toward c =
    let p = err_from_is_err_and c.from_residual.result c.from_residual.ensures.1 in
    let q = c.in_err-prepare_toward.ensures in
    rw (p.1, p.2)
    (turn-prepared c.args.l c.args.n c.args.d _ (refused-number _) c.if-l-eq0.true q.0, q.1)

pub returns-then-l-eq0 : goal.returns-then-l-eq0
returns-then-l-eq0 c =
    let q = c.in_ok-prepare_toward.ensures in
    (turn-prepared c.args.l c.args.n c.args.d _ (accepted-number _) c.if-l-eq0.true q.0, q.1)

pub returns-in_err-grow_toward : goal.returns-in_err-grow_toward
returns-in_err-grow_toward c =
    let p = err_from_is_err_and c.from_residual-in_err-grow_toward.result c.from_residual-in_err-grow_toward.ensures.1 in
    let q = c.in_err-grow_toward.ensures in
    rw (p.1, p.2)
    (turn_moved c.args.l c.args.n c.args.d _ (refused-number _) c.if-l-eq0.false q.0, q.1)

pub returns : goal.returns
returns c =
    let q = c.in_ok-grow_toward.ensures in
    (turn_moved c.args.l c.args.n c.args.d _ (accepted-number _) c.if-l-eq0.false q.0, q.1)
