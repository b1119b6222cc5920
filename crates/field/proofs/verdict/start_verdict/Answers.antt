-- `field::verdict::start_verdict` meets its contract: the definition's tests in their order, and what they show of the sizes. Assumes nothing.
use mathlib.Core.Path.{sym, ◌∙◌}
use Rattle.field.proofs.Verdicts.{width_refused, maximum_refused, buffer_refused, default_refused, sizes_accepted, within_range}
use Rattle.field.proofs.verdict.start_verdict.Goals.{then-out_of_range-via-then-out_of_range, then-out_of_range-via-else-out_of_range+then-out_of_range-2}
use Rattle.field.proofs.verdict.start_verdict.Goals as goal

pub returns-then-out_of_range-clause-verdict : goal.returns-then-out_of_range-clause-verdict
returns-then-out_of_range-clause-verdict c =
    elim c.then-out_of_range.branch [
      | then-out_of_range-via-then-out_of_range w ↦ search (width_refused, w)
      | then-out_of_range-via-else-out_of_range+then-out_of_range-2 w ↦ search (maximum_refused, w)
    ]

pub returns-then-buffer-maximum-clause-verdict : goal.returns-then-buffer-maximum-clause-verdict
returns-then-buffer-maximum-clause-verdict c = search buffer_refused

pub returns-then-maximum-default-clause-verdict : goal.returns-then-maximum-default-clause-verdict
returns-then-maximum-default-clause-verdict c = search default_refused

pub invariant_of-result : goal.invariant_of-result
invariant_of-result c =
    let m = within_range c.args.settings.now.maximum (sym c.out_of_range-else-out_of_range.ensures ∙ c.if-out_of_range-2.false) in
    record { maximum_high = m.1; default_fits = c.if-maximum-default.false }

pub returns-clause-verdict : goal.returns-clause-verdict
returns-clause-verdict c = search sizes_accepted
