-- `rectangle::legal` meets its contract: the tests are the definition's, joined as it joins them. Assumes nothing.
use mathlib.Core.Path.{refl}
use Rattle.rectangle.specs.Rectangles.{legal}
use Rattle.rectangle.proofs.legal.Goals as goal

pub returns : goal.returns
unfolding legal
returns c = refl
