-- `screen::is_screen` meets its contract: the test is the definition's. Assumes nothing.
use mathlib.Core.Path.{refl}
use Rattle.screen.specs.Size.{is_screen}
use Rattle.screen.proofs.is_screen.Goals as goal

pub returns : goal.returns
unfolding is_screen
returns c = refl
