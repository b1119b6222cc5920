-- `view::place::goto_xy` meets its contract: $14 leaves the viewport as it was, so $06 may follow. Assumes nothing.
use Rattle.view.proofs.Places.{after_column, then_line}
use Rattle.view.proofs.place.goto_xy.Goals as goal

pub set_vertical-requires : goal.set_vertical-requires
set_vertical-requires c = search after_column

pub returns : goal.returns
returns c = search then_line
