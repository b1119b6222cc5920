-- `view::cursor::backspace` meets its contract: a scroll down is the definition's third arm. Assumes nothing.
use Rattle.laws.proofs.Choices.{choices}
use Rattle.port.specs.Codes.{backspace}
use Rattle.view.proofs.Plans.{plans}
use Rattle.view.proofs.cursor.backspace.Goals as goal

pub returns-then-v-3 : goal.returns-then-v-3
unfolding backspace
returns-then-v-3 c = search (choices, plans)
