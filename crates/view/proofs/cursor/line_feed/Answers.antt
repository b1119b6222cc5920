-- `view::cursor::line_feed` meets its contract: a scroll up is the definition's second arm. Assumes nothing.
use Rattle.laws.proofs.Choices.{choices}
use Rattle.port.specs.Codes.{line_feed}
use Rattle.view.proofs.Plans.{plans}
use Rattle.view.proofs.cursor.line_feed.Goals as goal

pub returns-then-v-2 : goal.returns-then-v-2
unfolding line_feed
returns-then-v-2 c = search (choices, plans)
