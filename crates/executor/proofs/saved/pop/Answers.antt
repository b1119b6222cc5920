-- `executor::saved::pop` meets its contract: the test is the definition's. Assumes nothing.
use Rattle.laws.proofs.Choices.{choices}
use Rattle.port.specs.Step.{pop}
use Rattle.executor.proofs.Executing.{in_view}
use Rattle.executor.proofs.saved.pop.Goals as goal

pub returns-then-p : goal.returns-then-p
unfolding pop
returns-then-p c = search (choices, in_view)

pub returns : goal.returns
unfolding pop
returns c = search (choices, in_view)
