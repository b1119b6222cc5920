-- `rectangle::is_zero_rect` meets its contract: equality with the rectangle of zeros tests the four edges, as the definition does. Assumes nothing.
use Rattle.std.proofs.Common.{rules}
use Rattle.std.proofs.Math.Bool.{and_assoc}
use Rattle.rectangle.specs.Rectangles.{is_zero_rect}
use Rattle.rectangle.proofs.is_zero_rect.Goals as goal

pub returns : goal.returns
unfolding is_zero_rect
returns c = search (rules, and_assoc)
