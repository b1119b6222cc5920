-- `rectangle::within` meets its contract: the tests are the definition's, joined as it joins them. Assumes nothing.
use mathlib.Core.Path.{refl}
use Rattle.rectangle.specs.Rectangles.{within}
use Rattle.rectangle.proofs.within.Goals as goal

pub returns : goal.returns
unfolding within
returns c = refl
