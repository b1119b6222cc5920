-- `rectangle::shares_cell` meets its contract. Assumes nothing.
use mathlib.Core.Path.{refl}
use Rattle.rectangle.specs.Rectangles.{shares_cell}
use Rattle.rectangle.proofs.shares_cell.Goals as goal

pub returns : goal.returns
unfolding shares_cell
returns c = refl
