-- `boundary::fields::combthrift_field_start` meets its contract: the call's reply in numbers, or nothing. Assumes nothing.
use Rattle.boundary.proofs.FieldRuns.{start_short, start_runs}
use Rattle.boundary.proofs.fields.combthrift_field_start.Goals as goal

pub returns-then-answer-lt6 : goal.returns-then-answer-lt6
returns-then-answer-lt6 c = search start_short

pub returns : goal.returns
returns c = search start_runs
