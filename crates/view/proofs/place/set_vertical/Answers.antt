-- `view::place::set_vertical` meets its contract: the line is placed by its number. Assumes nothing.
use Rattle.view.proofs.Places.{line_placed}
use Rattle.view.proofs.place.set_vertical.Goals as goal

pub returns : goal.returns
returns c = search line_placed
