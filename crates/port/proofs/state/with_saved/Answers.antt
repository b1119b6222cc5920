-- `port::state::with_saved` meets its contract: the port with these two fields, and no other changed. Assumes nothing.
use mathlib.Core.Path.{refl}
use Rattle.port.proofs.state.with_saved.Goals as goal

pub returns : goal.returns
returns c = refl
