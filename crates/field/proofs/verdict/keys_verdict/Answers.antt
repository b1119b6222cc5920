-- `field::verdict::keys_verdict` meets its contract: the first of the two verdicts that refuses. Assumes nothing.
use Rattle.std.proofs.lemmas.Result.{err_from_is_err_and}
use Rattle.field.proofs.Verdicts.{refused_first, judged_by_state}
use Rattle.field.proofs.verdict.keys_verdict.Goals as goal

pub returns-in_err-field-clause-verdict : goal.returns-in_err-field-clause-verdict
returns-in_err-field-clause-verdict c =
    let p = err_from_is_err_and c.from_residual.result c.from_residual.ensures.1 in
    rw (p.1, p.2) (refused_first c.args.settings.now.width c.args.settings.now.maximum c.args.buffer c.args.state c.args.settings.now.default.now c.in_err-field.ensures.verdict)

pub returns-in_err-state_verdict-clause-verdict : goal.returns-in_err-state_verdict-clause-verdict
returns-in_err-state_verdict-clause-verdict c =
    let p = err_from_is_err_and c.from_residual-in_err-state_verdict.result c.from_residual-in_err-state_verdict.ensures.1 in
    rw (p.1, p.2) (judged_by_state c.args.settings.now.width c.args.settings.now.maximum c.args.buffer c.args.state c.args.settings.now.default.now c.in_ok-field.field c.in_ok-field.ensures.verdict c.in_ok-field.ensures.field c.in_err-state_verdict.ensures)

pub returns-clause-verdict : goal.returns-clause-verdict
returns-clause-verdict c =
    judged_by_state c.args.settings.now.width c.args.settings.now.maximum c.args.buffer c.args.state c.args.settings.now.default.now c.in_ok-field.field c.in_ok-field.ensures.verdict c.in_ok-field.ensures.field c.in_ok-state_verdict.ensures
