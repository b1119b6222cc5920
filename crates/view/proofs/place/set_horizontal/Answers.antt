-- `view::place::set_horizontal` meets its contract: the column is placed by its number. Assumes nothing.
use Rattle.view.proofs.Places.{column_placed}
use Rattle.view.proofs.place.set_horizontal.Goals as goal

pub returns : goal.returns
returns c = search column_placed
