-- `view::place::horizontal_scroll` meets its contract: 255 less a byte, and one more, is 256 less it. Assumes nothing.
use Rattle.laws.proofs.Choices.{choices}
use Rattle.port.specs.Codes.{horizontal_scroll}
use Rattle.view.proofs.Places.{back_by}
use Rattle.view.proofs.Plans.{plans}
use Rattle.view.proofs.place.horizontal_scroll.Goals as goal

pub returns : goal.returns
unfolding horizontal_scroll
returns c = search (choices, plans, back_by)
