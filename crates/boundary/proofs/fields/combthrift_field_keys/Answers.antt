-- `boundary::fields::combthrift_field_keys` meets its contract: the call's reply in numbers, or nothing. Assumes nothing.
use Rattle.boundary.proofs.FieldRuns.{keys_short, keys_runs}
use Rattle.boundary.proofs.fields.combthrift_field_keys.Goals as goal

pub returns-then-answer-lt6 : goal.returns-then-answer-lt6
returns-then-answer-lt6 c = search keys_short

pub returns : goal.returns
returns c = search keys_runs
