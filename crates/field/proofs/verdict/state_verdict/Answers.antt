-- `field::verdict::state_verdict` meets its contract: the definition's test. Assumes nothing.
use mathlib.Core.Logic.{inl, inr}
use Rattle.field.proofs.Verdicts.{past_limits, within_limits}
use Rattle.field.proofs.verdict.state_verdict.Goals.{then-field-state-via-then-field-state, then-field-state-via-else-field-state+then-state, then-field-state-via-else-field-state+else-state+then-field-state-2}
use Rattle.field.proofs.verdict.state_verdict.Goals as goal

pub returns-then-field-state : goal.returns-then-field-state
returns-then-field-state c =
    past_limits c.args.field.now.width c.args.field.now.maximum 0 c.args.state
    (elim c.then-field-state.branch [
      | then-field-state-via-then-field-state w ↦ inl w.if-field-state.true
      | then-field-state-via-else-field-state+then-state w ↦ inr (inl w.if-state.true)
      | then-field-state-via-else-field-state+else-state+then-field-state-2 w ↦ inr (inr w.if-field-state-2.true)
    ])

pub returns : goal.returns
returns c = search within_limits
