-- `control::parameter` meets its contract: the test is the definition's, by what `parameters` returns. Assumes nothing.
use Rattle.control.proofs.Arms.{is_gathered, is_last}
use Rattle.control.proofs.parameter.Goals as goal

pub returns-then-a-parameters : goal.returns-then-a-parameters
returns-then-a-parameters c = λ p at. search is_gathered

pub returns : goal.returns
returns c = λ p at. let done = c.perform.ensures p at in search is_last
